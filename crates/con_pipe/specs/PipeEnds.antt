-- What a clause reads of the two ends of a pipe.
use Rattle.std.specs.Prelude.{ℕ, Bool, List}
use Rattle.rtrb.specs.Ring.{sent, received, producer_capacity, consumer_capacity, IsPair, SameProducer, SameConsumer}
use Rattle.con_pipe.specs.Pieces.{pieces}
use Rattle.con_pipe.specs.declared.put.PipeIn.{PipeIn}
use Rattle.con_pipe.specs.declared.take.PipeOut.{PipeOut}

-- the pieces that were put, oldest first
abbrev pub pieces_put : PipeIn → List (List ℕ)
pieces_put put = pieces (sent put.producer)

-- the end mark was put
abbrev pub is_finished : PipeIn → Bool
is_finished put = put.finished

-- the pieces that were taken, oldest first
abbrev pub pieces_taken : PipeOut → List (List ℕ)
pieces_taken take = pieces (received take.consumer)

-- the end mark was taken
abbrev pub has_ended : PipeOut → Bool
has_ended take = take.ended

-- how many pieces, the end mark among them, the pipe holds before any is taken; it stays so
abbrev pub put_room : PipeIn → ℕ
put_room put = producer_capacity put.producer

abbrev pub take_room : PipeOut → ℕ
take_room take = consumer_capacity take.consumer

-- the two ends of one pipe
abbrev pub IsPipe : PipeIn → PipeOut → Type 0
IsPipe put take = IsPair put.producer take.consumer

-- an end of the same pipe, with the same room, which may have put or taken more
abbrev pub IsSameIn : PipeIn → PipeIn → Type 0
IsSameIn old new = SameProducer old.producer new.producer

abbrev pub IsSameOut : PipeOut → PipeOut → Type 0
IsSameOut old new = SameConsumer old.consumer new.consumer
