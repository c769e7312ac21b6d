-- The entry that ends the journal is the last one of its chain.
use Rattle.std.proofs.Common.{◌≡◌, sym, ◌∙◌, ap}
use Rattle.bcast_history.specs.Book.{IsEnded, notes_of}
use Rattle.bcast_history.proofs.Chains.{adds_moves, ends}
use Rattle.bcast_history.proofs.journal.Writer.end.Goals as goal

pub compare_exchange-requires : goal.compare_exchange-requires
compare_exchange-requires g c =
    let was = c.self.invariant in
    let offer = c.plain-offer.ensures in
    let back = sym (ap (λ word. word.book) was.0) in (
      ap (λ word. word.tracked) was.0,
      was.1 ∙ back,
      was.2 ∙ back,
      offer.0,
      rw (ap (λ word. word.key) was.0, offer.3) (adds_moves c.self.inside.seen.log c.self.inside.pen.nib c.plain-offer.result.ask was.3 (ap (λ ask. ask.key) offer.1)),
    )

ended : (g : _) (c : goal.After-drop-head g) → let first = g.J.Named.book.first in let after = c.compare_exchange.new.seen.log in
    (notes_of first after ≡ notes_of first c.self.inside.seen.log) × IsEnded first after
ended g c =
    let step = c.compare_exchange.ensures.7 in
    let ask = c.plain-offer.ensures.1 in
    let key = ap (λ e. e.key) ask in
    ends g.J.Named.book.first c.self.inside.seen.log step.0 c.compare_exchange.new.seen.log c.plain-offer.result.ask step.1 step.2
    (key ∙ c.self.invariant.4) (ap (λ e. e.note) ask) (ap (λ e. e.next) ask ∙ sym key) step.3

pub invariant_of-result : goal.invariant_of-result
invariant_of-result g c = (c.compare_exchange.ensures.0 ∙ c.self.invariant.1, (ended g c).1)

pub returns : goal.returns
returns g c = (ended g c).0 ∙ c.self.view_is
