-- A receiver's log: the messages that it was given, in order.
use Rattle.std.specs.Prelude.{◌≡◌, ℕ, ◌+◌, List, length, true, Result, Ok, Err, codes}
use Rattle.std.specs.declared.alloc.AllocError.{AllocError}
use mathlib.Core.List.{IsPrefix}
use Rattle.bcast_model.specs.declared.error.RecvError.TheVariants as unreceived
use Rattle.bcast_model.specs.declared.error.TryRecvError.TheVariants as unread
use Rattle.bcast_model.specs.declared.run.Call.{Call}
use Rattle.bcast_model.specs.declared.run.Reply.{Reply}
use Rattle.bcast_model.specs.Words.{ClonesEqual, end_number, recv_error_text}
use Rattle.bcast_history.specs.Batch.{AreDeliveries}
use Rattle.bcast_history.specs.History.{Opening, Step, IsHistory, end_of, accepted_by}
use Rattle.bcast_history.specs.Makes.{ReceivesOnce}
use Rattle.bcast_history.specs.Tracker.{Tracker, number}

-- what is seen of a log: its messages, and the steps that its receiver knew at its end
pub record Logged (T : Type 0) : Type 0 where
  pub list : List T
  pub steps : List (Step T)

module _ {T : Type 0} (is_clone : T → T → Type 0) (o : Opening) where
  -- what a receiver was given that started at the first message and has read so far: the accepted
  -- messages, one after the other, each itself or a clone
  pub record IsLog (log : List T) (reader : Tracker T) : Type 0 where
    pub messages : AreDeliveries is_clone (end_of o reader.steps) o.first_number log
    pub next : number reader.next ≡ o.first_number + length log

  -- what it was given till it found the channel closed, by these steps: nothing is left out
  pub record IsWholeLog (log : List T) (steps : List (Step T)) : Type 0 where
    pub messages : AreDeliveries is_clone (end_of o steps) o.first_number log
    pub whole : o.first_number + length log ≡ end_number (end_of o steps)
    pub closed : (end_of o steps).control.closed ≡ true
    pub run : IsHistory is_clone o steps

module _
    {T : Type 0} (learns : Tracker T → Call T → Reply T → Tracker T → Type 0)
    (is_clone : T → T → Type 0) (o : Opening) where
  -- what it was given till it missed messages: a log, and the next receive found that `n` of them are
  -- gone; or till memory was refused: a log
  abbrev pub IsCutLog : List T → Result ℕ AllocError → Tracker T → Type 0
  IsCutLog log (Ok n) reader =
      (last : Tracker T) × IsLog is_clone o log last
      × ReceivesOnce learns is_clone o last reader (Ok (Err (unread.Overflowed n)))
  IsCutLog log (Err refused) reader = IsLog is_clone o log reader

-- `CutLog`, as `{}` prints it
abbrev pub cut_log_text : Result ℕ AllocError → List ℕ
cut_log_text (Ok n) = recv_error_text (unreceived.Overflowed n)
cut_log_text (Err refused) = codes "out of memory"

-- a log from the first message on that ends where the channel ended after some steps: it is what
-- the channel had accepted by then, whichever of the two was seen first, if clones are equal
abbrev pub LogsAreAccepted : {T : Type 0} → (T → T → Type 0) → Type 0
LogsAreAccepted {T} is_clone =
    ClonesEqual is_clone → (o : Opening) (known ended later : List (Step T)) (log : List T)
    → IsPrefix known later → IsPrefix ended later
    → AreDeliveries is_clone (end_of o known) o.first_number log
    → o.first_number + length log ≡ end_number (end_of o ended)
    → log ≡ accepted_by o ended
