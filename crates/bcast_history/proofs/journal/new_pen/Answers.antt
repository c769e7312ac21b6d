use Rattle.std.proofs.Common.{sym, ◌∙◌, ap}
use Rattle.bcast_history.proofs.Chains.{makes_moves}
use Rattle.bcast_history.proofs.journal.new_pen.Goals as goal

pub compare_exchange-requires : goal.compare_exchange-requires
compare_exchange-requires g c =
    let head = c.requires in
    let offer = c.plain-offer.ensures in
    let pen = c.no_pen-pen.ensures in
    let seen = c.again-seen.ensures in
    let book = ap (λ s. s.book) seen ∙ sym (ap (λ word. word.book) head) in (
      ap (λ word. word.tracked) head,
      book,
      pen.0 ∙ book,
      offer.0,
      rw (ap (λ word. word.key) head, pen.1, offer.3) (makes_moves c.again-seen.result.log c.plain-offer.result.ask),
    )
