-- The names that most proofs of this crate cite, passed on from one place. Declares nothing.
pub use Rattle.std.proofs.Common.{◌≡◌, ℕ, ◌<◌, ◌≤◌, ◌==◌, Bool, true, false, ◌||◌, List, [], ◌∷◌, length, map, refl, sym, ◌∙◌, subst, arith, true≢false, Option, set, get_or, vec_capacity, Vec, ap, ◌+◌, ◌-◌, cond, Some, ltb, rules, ◌^◌, is_some, ◌++◌, length-set, None}
pub use Rattle.std.proofs.lemmas.Grind.{common_steps, get_or_default_zero}
pub use Rattle.bcast_model.specs.Words.{IsDistinct, is_in, consume, untold_ids, join}
pub use Rattle.bcast_waiting.specs.Words.{slot_id, ids_in, slots_of, AreKept, is_told, listed, IsKept, Event, listeners_of, keys_in, IsIndexed, Slots, front, IsAt}
