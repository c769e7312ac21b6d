use Rattle.std.proofs.Common.{◌≡◌, [], ◌∷◌, ◌++◌, sym, ◌∙◌, ap, subst}
use Rattle.std.specs.List.{cons_option}
use Rattle.bcast_history.specs.Book.{notes_of, turn_of, Lacks}
use Rattle.bcast_history.proofs.Prefixes.{IsPrefix, prefix_trans}
use Rattle.bcast_history.proofs.Chains.{adds_moves, notes_begin, as_it_was, one_more}
use Rattle.bcast_history.proofs.journal.Writer.append.Goals as goal

pub compare_exchange-requires : goal.compare_exchange-requires
compare_exchange-requires g c =
    let was = c.self.invariant in
    let offer = c.plain-offer.ensures in
    let back = sym (ap (λ word. word.book) was.0) in
    let book = c.learn.ensures.0 ∙ ap (λ seen. seen.book) c.again-seen.ensures ∙ was.1 in (
      ap (λ word. word.tracked) was.0,
      book ∙ back,
      was.2 ∙ back,
      offer.0,
      rw (ap (λ word. word.key) was.0, offer.3) (adds_moves c.learn.new.self.log c.self.inside.pen.nib c.plain-offer.result.ask was.3 (ap (λ ask. ask.key) offer.1)),
    )

-- the entry brings home the cell whose turn it is
turn : (g : _) (c : goal.After-drop-offer g) → c.plain-offer.result.ask.key ≡ turn_of g.J.Named.book.first c.self.inside.seen.log
turn g c = ap (λ e. e.key) c.plain-offer.ensures.1 ∙ c.self.invariant.4

-- the log that it was added to goes on from what the writer had seen
begun : (g : _) (c : goal.After-drop-offer g) → IsPrefix c.self.inside.seen.log c.compare_exchange.ensures.7.0
begun g c =
    let step = c.compare_exchange.ensures.7 in
    let learnt = subst (λ (s : _). IsPrefix s.log c.learn.new.self.log) c.again-seen.ensures c.learn.ensures.2 in
    prefix_trans c.self.inside.seen.log c.learn.new.self.log step.0 learnt step.1

added : (g : _) (c : goal.After-drop-offer g) → let first = g.J.Named.book.first in let after = c.compare_exchange.new.seen.log in
    (notes_of first after ≡ notes_of first c.self.inside.seen.log ++ g.Y.Notes.note c.args.about.now ∷ []) × (turn_of first after ≡ c.new_pen-next.result.nib.key)
added g c =
    let step = c.compare_exchange.ensures.7 in
    let seen = c.self.inside.seen.log in
    let more = one_more g.J.Named.book.first seen step.0 c.compare_exchange.new.seen.log c.plain-offer.result.ask (begun g c) step.2 (turn g c) step.3 in (
      more.0 ∙ ap (λ e. notes_of g.J.Named.book.first seen ++ cons_option e.note []) c.plain-offer.ensures.1,
      more.1 ∙ ap (λ e. e.next) c.plain-offer.ensures.1,
    )

pub invariant_of-self : goal.invariant_of-self
invariant_of-self g c =
    let was = c.self.invariant in
    let next = c.new_pen-next.ensures in
    let book = c.compare_exchange.ensures.0 ∙ c.learn.ensures.0 ∙ ap (λ seen. seen.book) c.again-seen.ensures ∙ was.1 in
    (was.0, book, next.0 ∙ was.1, next.1, sym (added g c).1)

pub returns-clause-appended : goal.returns-clause-appended
returns-clause-appended g c = rw (← c.self.view_is) (added g c).0

pub returns-clause-before : goal.returns-clause-before
returns-clause-before g c =
    let first = g.J.Named.book.first in
    let step = c.compare_exchange.ensures.7 in
    let known = c.known.inside.seen.log in
    let lacks = subst (λ key. Lacks key step.0) (turn g c) step.2 in
    let was = as_it_was first c.self.inside.seen.log step.0 (begun g c) lacks in
    let begins = notes_begin first known step.0 (prefix_trans known c.learn.new.self.log step.0 c.learn.ensures.3 step.1) in
    rw (← c.known.view_is, ← c.self.view_is) (subst (IsPrefix (notes_of first known)) was.0 begins)
