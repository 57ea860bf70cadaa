-- How frames that are read as on any link become frames of a link with a second terminal.
use Rattle.std.specs.Prelude.{Result, Ok, Err}
use Rattle.con_units.specs.declared.view.Frame.{Frame}
use Rattle.con_units.specs.declared.view.Frame.TheVariants as frames
use Rattle.con_link.specs.declared.fault.LinkFault.{LinkFault}
use Rattle.con_link.specs.declared.mirror.MirrorFrame.{MirrorFrame}
use Rattle.con_link.specs.declared.mirror.MirrorFrame.TheVariants.{Plain, Attach}

-- a size that is read behind A attaches; no other frame is read there
abbrev pub attached : Frame → MirrorFrame
attached (frames.Resize size) = Attach size
attached (frames.Bytes bytes) = Plain (frames.Bytes bytes)
attached frames.Quiet = Plain frames.Quiet
attached frames.Ask = Plain frames.Ask
attached frames.Hangup = Plain frames.Hangup
attached frames.End = Plain frames.End

abbrev pub attach_read : Result Frame LinkFault → Result MirrorFrame LinkFault
attach_read (Ok frame) = Ok (attached frame)
attach_read (Err fault) = Err fault

abbrev pub plain_read : Result Frame LinkFault → Result MirrorFrame LinkFault
plain_read (Ok frame) = Ok (Plain frame)
plain_read (Err fault) = Err fault
