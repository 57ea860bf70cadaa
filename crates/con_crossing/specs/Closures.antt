-- Closures over what may cross threads.
use Rattle.std.proofs.Common.{ℕ, List, [], ◌∷◌}
use mir.Syntax.{Ty}
use denote.Exit.{Kept}
use denote.RattleType.{RattleType}
use denote.Param.{param, arg}
use denote.Param.Send.{IsSend, IsSync, AllSend, AllSync, param_send, param_sync, arg_send, arg_sync}
use denote.Param.SendFields.{FieldsHave, as_row_send, as_row_sync, declared_send, declared_sync}
use denote.Struct.Field.{row_field}
use denote.Struct.Tuple.{TupleAt, type_at, parts}

sent : (Ts : List RattleType) → AllSend Ts → FieldsHave IsSend (parts Ts)
sent [] s = tt
sent (R ∷ Ts) s = (as_row_send (row_field R) s.0, sent Ts s.1)

shared : (Ts : List RattleType) → AllSync Ts → FieldsHave IsSync (parts Ts)
shared [] s = tt
shared (R ∷ Ts) s = (as_row_sync (row_field R) s.0, shared Ts s.1)

-- a closure over captures that may cross threads
module _ (i : ℕ) (δ : Ty) (k : Kept) (ν : List ℕ) (Ts : List RattleType) where
  pub closure_send : AllSend Ts → IsSend (param i (arg δ k (TupleAt ν Ts)))
  closure_send s = param_send i (arg δ k (TupleAt ν Ts)) (arg_send δ k (TupleAt ν Ts) (declared_send (type_at ν Ts) (sent Ts s)))

  pub closure_sync : AllSync Ts → IsSync (param i (arg δ k (TupleAt ν Ts)))
  closure_sync s = param_sync i (arg δ k (TupleAt ν Ts)) (arg_sync δ k (TupleAt ν Ts) (declared_sync (type_at ν Ts) (shared Ts s)))
