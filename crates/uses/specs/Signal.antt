-- What callers see of a signal to stop: how many hold it, and its workers.
use Rattle.std.specs.Prelude.{◌≡◌, ◌≢◌, ℕ, ◌==◌, Bool, true, false, IsSome, Result, Ok, Err, refl}
use Rattle.std.specs.declared.alloc.AllocError.{AllocError}
use Rattle.std.specs.Coded.{Coded, code_by, coded×, coded_ℕ}
use Rattle.std.specs.FinMap.{code, get}
use Rattle.bcast_model.specs.declared.error.TryRecvError.TheVariants as unread
use Rattle.bcast_model.specs.declared.error.TryRecvError.{TryRecvError}
use Rattle.bcast_model.specs.Words.{Cursors, View}

-- the count of senders, and the receivers' keys
pub record Signal : Type 0 where
  pub holders : ℕ
  pub workers : Cursors

-- how a signal is stored
abbrev pub signal_code : Coded Signal
signal_code =
    code_by (ℕ × Cursors) (coded× coded_ℕ (code coded_ℕ coded_ℕ))
    (λ s. (s.holders, s.workers)) (λ p. record { holders = p.0; workers = p.1 }) (λ _. refl)

abbrev pub signal_of : View (Unit {0}) → Signal
signal_of v = record { holders = v.control.senders; workers = v.control.cursors }

-- nothing was ever sent, and the channel is closed exactly if no sender is left
pub record IsSignal (v : View (Unit {0})) : Type 0 where
  pub unused : v.end ≡ 0
  pub closed : v.control.closed ≡ (v.control.senders == 0)

-- a worker has this key
abbrev pub IsWorker : Signal → ℕ → Type 0
IsWorker s key = IsSome (get s.workers key)

-- `new_receiver`: one more worker, and the others are the same
pub record AddsWorker (old new : Signal) (added : ℕ) : Type 0 where
  pub holders : new.holders ≡ old.holders
  pub worker : IsWorker new added
  pub others : (key : ℕ) → IsWorker old key → IsWorker new key
  pub only : (key : ℕ) → key ≢ added → IsWorker new key → IsWorker old key

-- `try_recv`: whether its reply is that everything was read and the channel is closed
abbrev pub is_closed_reply : Result (Result (Unit {0}) TryRecvError) AllocError → Bool
is_closed_reply (Ok (Err unread.Closed)) = true
is_closed_reply other = false
