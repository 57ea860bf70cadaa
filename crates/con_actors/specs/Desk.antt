-- Replies as a session lists them.
use Rattle.con_events.specs.declared.reply.Reply.{Reply}
use Rattle.con_events.specs.declared.reply.Reply.TheVariants as replies

-- a reply as a session lists it: a Paint counts as answered by Done
abbrev pub listed : Reply → Reply
listed (replies.View v marks fresh) = replies.Done
listed r = r
