-- The conditional parts of a call, and its replies, each by its cases.
use Rattle.std.proofs.Common.{◌≡◌, ℕ, ◌+◌, ◌<◌, ◌≤◌, ◌==◌, ◌&&◌, ◌||◌, Bool, true, false, cond, length, Option, Some, None, Result, Ok, Err, OnErr, not, nat_lt, inl, inr, refl, sym, subst, arith, ◌-◌, alloc_error}
use Rattle.std.proofs.lemmas.Grind.{common_steps}
use Rattle.std.specs.FinMap.{get}
use Rattle.bcast_model.specs.Words.{IsMadeFrom, IsReceivedBy, Found, IsOwed, HandleError, Cursors}
use Rattle.bcast_model.specs.Words.{Reply, Control, last_end, tell_a_sender, tell_receivers}
use Rattle.bcast_model.specs.Words.{closing, close, close_if_deserted, accepting}
use Rattle.bcast_model.specs.Words.{with_cursor, History, with_control, view_of, View}
use Rattle.bcast_model.specs.Words.{sends_are_ready, TrySendError, clone_receiver, end_call}
use Rattle.bcast_model.specs.Words.{Call, remember, effect, next, tell_if_ready, IsValidView}
use Rattle.bcast_model.specs.Words.{receive, has_no_receiver, is_full, try_broadcast_reply}
use Rattle.bcast_model.specs.Words.{handed_back, kept_at, recv_reply, try_recv_reply}
use Rattle.bcast_model.specs.declared.error.HandleError.TheVariants as handle
use Rattle.bcast_model.specs.declared.error.TrySendError.TheVariants as unsent
use Rattle.bcast_model.specs.declared.error.TryRecvError.TheVariants as unread

-- a value that is one of two, if the test was computed
pub test_is : {A : Type 0} (P : A → Type 0) (b : Bool) (x y : A) → (b ≡ true → P x) → (b ≡ false → P y) → P (cond b x y)
test_is P true x y holds fails = holds refl
test_is P false x y holds fails = fails refl

-- what holds in any case holds if a call returned an error
pub on_err : {A E P : Type 0} (result : Result A E) → P → OnErr result P
on_err (Ok value) holds = tt
on_err (Err error) holds = holds

pub close_is : (P : Control → Type 0) (c : Control) → (c.closed ≡ true → P c) → (c.closed ≡ false → P (closing c)) → P (close c)
close_is P c was now = test_is P c.closed c (closing c) was now

pub deserted_is : (P : Control → Type 0) (c : Control) → P (close c) → (((c.senders == 0) || (has_no_receiver c && (c.inactive == 0))) ≡ false → P c) → P (close_if_deserted c)
deserted_is P c gone stays = test_is P _ (close c) c (λ _. gone) stays

pub accepting_is : (P : Control → Type 0) (c : Control) (end : ℕ) → P (close (tell_receivers c)) → ((end == last_end) ≡ false → P (tell_receivers c)) → P (accepting c end)
accepting_is P c end last more = test_is P (end == last_end) (close (tell_receivers c)) (tell_receivers c) (λ _. last) more

-- a receiver that is cloned under no key changes nothing
pub uncloned : (c : Control) (cursor : Option ℕ) → clone_receiver c cursor None ≡ c
uncloned c None = refl
uncloned c (Some cursor) = refl

-- ---- closing and accepting change neither the capacity nor the cursors, and open no channel
-- if a call is allowed so, a positive capacity stays positive; a closed channel stays closed
abbrev pub Lasts : Type 0 → Control → Control → Type 0
Lasts Allowed old new = (Allowed → 1 ≤ old.capacity → 1 ≤ new.capacity) × (old.closed ≡ true → new.closed ≡ true)

-- the cursors and the capacity stay too
abbrev pub Stays : Control → Control → Type 0
Stays old new = (new.cursors ≡ old.cursors) × (new.capacity ≡ old.capacity) × Lasts (Unit {0}) old new

pub kept : (c : Control) → Stays c c
kept c = (refl, refl, (λ _ some. some, λ is. is))

pub stays-close : (c : Control) → Stays c (close c)
stays-close c = close_is (Stays c) c (λ _. kept c) (λ _. (refl, refl, (λ _ some. some, λ _. refl)))

pub stays-deserted : (c : Control) → Stays c (close_if_deserted c)
stays-deserted c = deserted_is (Stays c) c (stays-close c) (λ _. kept c)

pub stays-accepting : (c : Control) (end : ℕ) → Stays c (accepting c end)
stays-accepting c end = accepting_is (Stays c) c end (stays-close (tell_receivers c)) (λ _. kept c)

pub cursors-close : (c : Control) → (close c).cursors ≡ c.cursors
cursors-close c = (stays-close c).0

pub cursors-accepting : (c : Control) (end : ℕ) → (accepting c end).cursors ≡ c.cursors
cursors-accepting c end = (stays-accepting c end).0

-- ---- receiving
module _ {T : Type 0} (v : View T) where
  -- a receive moves a cursor that lags to the front, goes past a message, or finds none
  pub receive_is : (P : Control → Type 0) (key cursor : ℕ)
      → (cursor < v.front → P (with_cursor v.control key v.front)) → (v.front ≤ cursor → cursor < v.end → P (with_cursor v.control key (cursor + 1))) → (v.front ≤ cursor → v.end ≤ cursor → P v.control)
      → P (receive v key (Some cursor))
  receive_is P key cursor lags takes none =
      test_is P (nat_lt cursor v.front) (with_cursor v.control key v.front) (cond (nat_lt cursor v.end) (with_cursor v.control key (cursor + 1)) v.control)
      (λ e. lags (grind (arith, common_steps, e)))
      (λ e. test_is P (nat_lt cursor v.end) (with_cursor v.control key (cursor + 1)) v.control (λ f. takes (grind (arith, common_steps, e)) (grind (arith, common_steps, f))) (λ f. none (grind (arith, common_steps, e)) (grind (arith, common_steps, f))))

  -- ---- what a receive returns and does, by whether the receiver lags
  pub lagging_reply : (cursor : ℕ) → cursor < v.front → try_recv_reply v (Some cursor) ≡ Err (unread.Overflowed (v.front - cursor))
  lagging_reply cursor lags = let test : nat_lt cursor v.front ≡ true = grind (arith, common_steps, lags) in rw test refl

  pub passed_reply : (cursor : ℕ) → v.front ≤ cursor → try_recv_reply v (Some cursor) ≡ recv_reply v.control.closed (kept_at v cursor)
  passed_reply cursor passed = let test : nat_lt cursor v.front ≡ false = grind (arith, common_steps, passed) in rw test refl

  pub lagging_receive : (key cursor : ℕ) → cursor < v.front → receive v key (Some cursor) ≡ with_cursor v.control key v.front
  lagging_receive key cursor lags = let test : nat_lt cursor v.front ≡ true = grind (arith, common_steps, lags) in rw test refl

  pub passed_receive : (key cursor : ℕ) → v.front ≤ cursor → receive v key (Some cursor) ≡ cond (nat_lt cursor v.end) (with_cursor v.control key (cursor + 1)) v.control
  passed_receive key cursor passed = let test : nat_lt cursor v.front ≡ false = grind (arith, common_steps, passed) in rw test refl

  -- ---- a receive changes neither list of listeners
  pub lists-receive : (key : ℕ) (cursor : Option ℕ) → ((receive v key cursor).waiting_sends ≡ v.control.waiting_sends) × ((receive v key cursor).waiting_receives ≡ v.control.waiting_receives)
  lists-receive key None = (refl, refl)
  lists-receive key (Some cursor) = receive_is (λ now. (now.waiting_sends ≡ v.control.waiting_sends) × (now.waiting_receives ≡ v.control.waiting_receives)) key cursor (λ _. (refl, refl)) (λ _ _. (refl, refl)) (λ _ _. (refl, refl))

-- ---- telling a send at the end of a call
module _ {T : Type 0} where
  pub told_is : (P : View T → Type 0) (v : View T) → P (record v { control = tell_a_sender v.control }) → P v → P (tell_if_ready v)
  told_is P v told same = test_is P (sends_are_ready v) (record v { control = tell_a_sender v.control }) v (λ _. told) (λ _. same)

  -- if sends are ready and one that waits is told already, none is told
  pub told_already : (v : View T) → (sends_are_ready v ≡ true → 1 ≤ length v.control.waiting_sends.ids → 1 ≤ v.control.waiting_sends.told) → tell_if_ready v ≡ v
  told_already v told = grind (arith, common_steps)

  pub told_valid : (v : View T) → IsValidView v → tell_if_ready v ≡ v
  told_valid v valid = told_already v valid.wake_ups.sends

  pub tell_is : (P : History T → Type 0) (h : History T) → (sends_are_ready (view_of h) ≡ true → P (with_control h (tell_a_sender h.control))) → (sends_are_ready (view_of h) ≡ false → P h) → P (end_call h)
  tell_is P h tells keeps = test_is (λ c. P (with_control h c)) (sends_are_ready (view_of h)) (tell_a_sender h.control) h.control tells keeps

  -- what holds of the control after an effect holds after the call, if telling a send keeps it
  pub next_is : (P : Control → Type 0) (h : History T) (c : Call T) (r : Reply T) → P (tell_a_sender (effect (view_of h) c r).control) → P (effect (view_of h) c r).control → P (next h c r).control
  next_is P h c r told same = tell_is (λ (now : History T). P now.control) (remember h (effect (view_of h) c r)) (λ _. told) (λ _. same)

-- ---- a send is refused for one of three reasons, or accepted
pub sent_is : {A E : Type 0} (P : Result A E → Type 0) (closed none full : Bool) (x y z : E) (back : A) → P (Err x) → P (Err y) → P (Err z) → P (Ok back) → P (cond closed (Err x) (cond none (Err y) (cond full (Err z) (Ok back))))
sent_is P true none full x y z back is_closed is_inactive is_full accepted = is_closed
sent_is P false true full x y z back is_closed is_inactive is_full accepted = is_inactive
sent_is P false false true x y z back is_closed is_inactive is_full accepted = is_full
sent_is P false false false x y z back is_closed is_inactive is_full accepted = accepted

module _ {T : Type 0} where
  pub try_is : (P : Result (Option T) (TrySendError T) → Type 0) (v : View T) (msg : T) → ((error : TrySendError T) → try_broadcast_reply v msg ≡ Err error → P (Err error)) → (try_broadcast_reply v msg ≡ Ok (handed_back v) → P (Ok (handed_back v)))
      → P (try_broadcast_reply v msg)
  try_is P v msg refused accepted =
      sent_is (λ answer. try_broadcast_reply v msg ≡ answer → P answer) v.control.closed (has_no_receiver v.control) (is_full v && not v.control.overflow) (unsent.Closed msg) (unsent.Inactive msg) (unsent.Full msg) (handed_back v) (refused _) (refused _) (refused _) accepted refl

-- ---- replies
module _ {T : Type 0} where
  -- a call that makes a receiver gives it a free key, or is refused
  pub made_is : (P : Reply T → Type 0) (there : Bool) (cursors : Cursors) (spelt : Result ℕ HandleError → Reply T) (r : Reply T) → IsMadeFrom there cursors spelt r
      → ((key : ℕ) → get cursors key ≡ None → P (spelt (Ok key))) → ((error : HandleError) → P (spelt (Err error))) → P r
  made_is P there cursors spelt r (inl gone) made refused = subst P (sym gone.1) (refused handle.Gone)
  made_is P there cursors spelt r (inr (is, inl some)) made refused = subst P (sym some.1) (made some.0 some.2)
  made_is P there cursors spelt r (inr (is, inr e)) made refused = subst P (sym e) (refused handle.Memory)

  -- a receive returns its exact result, or gives a clone, or is out of memory for one
  pub received_is : {R : Type 0} (P : R → Type 0) (is_clone : T → T → Type 0) (v : View T) (key : ℕ) (cursor : Option ℕ) (spelt : Found T → R) (r : R) → IsReceivedBy is_clone v key cursor spelt r
      → P (spelt (Ok (try_recv_reply v cursor))) → (IsOwed v key cursor → (msg given : T) → try_recv_reply v cursor ≡ Ok msg → is_clone msg given → P (spelt (Ok (Ok given)))) → (IsOwed v key cursor → P (spelt (Err alloc_error))) → P r
  received_is P is_clone v key cursor spelt r (inl e) same clone none = subst P (sym e) same
  received_is P is_clone v key cursor spelt r (inr (owes, inl (msg, given, was, copy, e))) same clone none = subst P (sym e) (clone owes msg given was copy)
  received_is P is_clone v key cursor spelt r (inr (owes, inr e)) same clone none = subst P (sym e) (none owes)
