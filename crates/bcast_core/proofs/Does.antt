-- A call and its reply, before a sender may be told.
use Rattle.std.proofs.Common.{◌≡◌, inl, inr, ℕ, ◌<◌, ◌≤◌, false, Option, Result, Ok, Err, IfOk, OnOk, OnErr, refl, sym, ap, ◌∙◌, subst}
use Rattle.std.specs.declared.alloc.AllocError.{AllocError}
use Rattle.std.specs.FinMap.{values}
use Rattle.bcast_model.specs.declared.run.Call.{Call}
use Rattle.bcast_model.specs.declared.run.Call.TheVariants as call
use Rattle.bcast_model.specs.declared.run.Reply.{Reply}
use Rattle.bcast_model.specs.declared.run.Reply.TheVariants as reply
use Rattle.bcast_model.specs.Words.{Control, with_place, has_place, least, NoClone, Legal, View, Found}
use Rattle.bcast_model.specs.Words.{IsReceivedBy, receive, cursor_of, IsShown, IsValidView, settle, sets}
use Rattle.bcast_model.specs.Words.{effect, resize}
use Rattle.bcast_model.proofs.Views.{valid_view}
use Rattle.bcast_core.specs.Parts.{Does}
use Rattle.bcast_core.proofs.Settle.{settle_stays, settle_same}

module _ {T : Type 0} where
  pub valid_shown : {v : View T} → IsShown v → IsValidView v
  valid_shown s = subst IsValidView (sym s.2) (valid_view s.0 s.1)

  -- only the control changes, and the front stays
  pub does_sets : {is_clone : T → T → Type 0} {v new : View T} {c : Call T} {r : Reply T} (control : Control) → Legal is_clone v c r → effect v c r ≡ sets control → least v.end (values control.cursors) ≤ v.front
      → new ≡ record v { control = control } → Does is_clone v c r new
  does_sets {v = v} control legal is low new_is = record { legal = legal; effect = new_is ∙ sym (settle_stays v control low) ∙ ap (settle v) (sym is) }

  -- nothing changes
  pub does_nothing : {is_clone : T → T → Type 0} {v new : View T} {c : Call T} {r : Reply T} → IsValidView v → Legal is_clone v c r → effect v c r ≡ sets v.control → new ≡ v → Does is_clone v c r new
  does_nothing {v = v} valid legal is new_is = record { legal = legal; effect = new_is ∙ sym (settle_same v valid) ∙ ap (settle v) (sym is) }

  pub does_begin : (v new : View T) (r : Result ℕ AllocError) → IsValidView v → IfOk r (λ place. has_place v.control place ≡ false) → IfOk r (λ place. new ≡ record v { control = with_place v.control place }) → OnErr r (new ≡ v)
      → Does NoClone v call.BeginSend (reply.BeginSend r) new
  does_begin v new (Ok place) valid free ok err = does_sets (with_place v.control place) (inl (place, refl, free)) refl valid.low ok
  does_begin v new (Err e) valid free ok err = does_nothing valid (inr refl) refl err

  pub does_resize : (v new : View T) (n : ℕ) (r : Result (Unit {0}) AllocError) → IsValidView v → OnOk r (new ≡ settle v (resize v n)) → OnErr r (v.control.room < n) → OnErr r (new ≡ v)
      → Does NoClone v (call.SetCapacity n) (reply.SetCapacity r) new
  does_resize v new n (Ok u) valid ok refused err = record { legal = inl refl; effect = ok }
  does_resize v new n (Err e) valid ok refused err = does_nothing valid (inr (refl, refused)) refl err

  -- what was found, as another reply
  pub respelt : {is_clone : T → T → Type 0} {R : Type 0} (v : View T) (key : ℕ) (at : Option ℕ) (spelt : Found T → R) (found : Found T) → IsReceivedBy is_clone v key at (λ found. found) found → IsReceivedBy is_clone v key at spelt (spelt found)
  respelt v key at spelt found (inl is) = inl (ap spelt is)
  respelt v key at spelt found (inr (owes, inl (msg, given, was, copy, is))) = inr (owes, inl (msg, given, was, copy, ap spelt is))
  respelt v key at spelt found (inr (owes, inr is)) = inr (owes, inr (ap spelt is))

  -- `try_recv`, at a cursor that was looked up
  pub does_receive : {is_clone : T → T → Type 0} (v new : View T) (key : ℕ) (at : Option ℕ) (found : Found T) → at ≡ cursor_of v.control key → IsValidView v
      → IsReceivedBy is_clone v key at (λ found. found) found → OnOk found (new ≡ settle v (sets (receive v key at))) → OnErr found (new ≡ v) → Does is_clone v (call.TryRecv key) (reply.TryRecv found) new
  does_receive {is_clone = is_clone} v new key at (Ok answer) is valid found ok err = record {
    legal = subst (λ at. IsReceivedBy is_clone v key at reply.TryRecv (reply.TryRecv (Ok answer))) is (respelt v key at reply.TryRecv (Ok answer) found);
    effect = ok ∙ ap (λ at. settle v (sets (receive v key at))) is;
  }
  does_receive {is_clone = is_clone} v new key at (Err e) is valid found ok err =
      does_nothing valid (subst (λ at. IsReceivedBy is_clone v key at reply.TryRecv (reply.TryRecv (Err e))) is (respelt v key at reply.TryRecv (Err e) found)) refl err
