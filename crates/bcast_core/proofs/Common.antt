-- The names that most proofs of this crate cite, passed on from one place. Declares nothing.
pub use Rattle.std.proofs.Common.{◌≡◌, List, [], ◌∷◌, ◌++◌, length, append-nil, refl, sym, ap, ◌∙◌, false, append_assoc, subst, arith, ◌+◌, ◌≤◌, vec_len, vec_capacity, All, rules, true, eq-eqb, ne_eqb, Result, Ok, Err, OnErr, is_some, ℕ, Bool, cond, ◌-◌, ◌^◌, ◌<◌, inl, not, ◌==◌, inr, IsSomeAnd, is_ok, None}
pub use Rattle.std.proofs.lemmas.Grind.{common_steps}
pub use Rattle.std.specs.FinMap.{get, entries, len, empty, insert}
pub use Rattle.bcast_model.specs.Words.{History, view_of, Legal, next, IsValid, IsRun, end_of_run, AtEachPoint, WaitsAsItsTry, ComesToRest, HasPositiveCapacity, opening, Represents, is_receive_refused, Places, is_empty_reply, has_no_receiver, is_full, offer, settle, View, with_message, pair_waits, has_place, place_waits, pair_ended, stream_of, future_of, pair_answered, tell_if_ready, place_answered, NoClone, cursor_of, sets, close, drop_receiver, place_ended, IsShown, kept_at, with_cursor, receive, recv_reply}
pub use Rattle.bcast_store.specs.Stored.{Stored, with_cursors, AreHandedOut, end_of}
pub use Rattle.bcast_core.specs.Parts.{ReceiversHaveRoom, control_of, seen_of, AllHaveRoom, Does, IsHandedOut}
pub use Rattle.bcast_core.specs.Telling.{tell_news, is_accepted}
pub use Rattle.bcast_core.proofs.Tail.{answers_read, some_news, ends, shown_after, unchanged, valid_shown, inside_shown, told_already, told_none, told_left, does_receive, does_sets, answers_as, tail_nobody, does_resize}
pub use Rattle.bcast_core.proofs.Settle.{cursors-close, inserted, low_inserted, settle_stays, view-with_cursors}
pub use Rattle.bcast_core.proofs.Making.{at_most, not_some, more_senders, more_inactive, fewer_senders, fewer_inactive, added_fits, new_added, clone_added, cloned_activated, not_added, activated, receiver_left, deactivated}
