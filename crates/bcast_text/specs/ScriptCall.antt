-- The call that each line asks for, and the names in use after it.
use Rattle.std.specs.Prelude.{ℕ, List, Option, Some, None, is_some, option_map, Ok, if◌then◌else◌, bytes_eq}
use Rattle.std.specs.Map.{update}
use Rattle.bcast_model.specs.declared.run.Call.{Call}
use Rattle.bcast_model.specs.declared.run.Reply.{Reply}
use Rattle.bcast_model.specs.declared.run.Call.TheVariants as call
use Rattle.bcast_model.specs.declared.run.Reply.TheVariants as reply
use Rattle.bcast_text.specs.declared.script.line.Line.{Line}
use Rattle.bcast_text.specs.declared.script.line.Line.TheVariants as line

-- a call that makes a receiver under a new name: none if the name is in use
abbrev pub unless_used : (List ℕ → Option ℕ) → List ℕ → Option (Call ℕ) → Option (Call ℕ)
unless_used key_of new asked = if is_some (key_of new) then None else asked

-- the call of a line; none if a name must be in use and is not, or must not be and is, or if the
-- line asks for a batch
abbrev pub call_of : (List ℕ → Option ℕ) → Line → Option (Call ℕ)
call_of key_of (line.Cap n) = None
call_of key_of (line.Send msg) = Some (call.TryBroadcast msg)
call_of key_of (line.SendAll msgs) = Some (call.TryBroadcastAll msgs)
call_of key_of (line.Recv name) = option_map call.TryRecv (key_of name.now)
call_of key_of (line.RecvMany name limit) = None
call_of key_of (line.Clone name new) =
    unless_used key_of new.now (option_map call.CloneReceiver (key_of name.now))
call_of key_of (line.New new) = unless_used key_of new.now (Some call.NewReceiver)
call_of key_of (line.Drop name) = option_map call.DropReceiver (key_of name.now)
call_of key_of line.NewSender = Some call.NewSender
call_of key_of line.DropSender = Some call.DropSender
call_of key_of line.Close = Some call.Close
call_of key_of (line.Capacity n) = Some (call.SetCapacity n)
call_of key_of (line.Overflow on) = Some (call.SetOverflow on)
call_of key_of (line.Await on) = Some (call.SetAwaitActive on)
call_of key_of (line.Deactivate name) = option_map call.Deactivate (key_of name.now)
call_of key_of (line.Activate new) = unless_used key_of new.now (Some call.Activate)
call_of key_of line.DropInactive = Some call.DropInactive
call_of key_of line.Len = Some call.Len

-- the receiver of a batch that a line asks for, and the batch's limit; none if the name is not in
-- use, or if the line asks for a call
abbrev pub batch_of : (List ℕ → Option ℕ) → Line → Option (ℕ × ℕ)
batch_of key_of (line.RecvMany name limit) = option_map (λ key. (key, limit)) (key_of name.now)
batch_of key_of asked = None

-- the key of each name after the reply to a line's call: a receiver that was made has the new name,
-- and the name of one that left is free
abbrev pub names_after : (List ℕ → Option ℕ) → Line → Reply ℕ → List ℕ → Option ℕ
names_after key_of (line.Clone name new) (reply.CloneReceiver (Ok key)) =
    update bytes_eq key_of new.now (Some key)
names_after key_of (line.New new) (reply.NewReceiver (Ok key)) =
    update bytes_eq key_of new.now (Some key)
names_after key_of (line.Activate new) (reply.Activate (Ok key)) =
    update bytes_eq key_of new.now (Some key)
names_after key_of (line.Drop name) replied = update bytes_eq key_of name.now None
names_after key_of (line.Deactivate name) (reply.Deactivate (Ok done)) =
    update bytes_eq key_of name.now None
names_after key_of asked replied = key_of
