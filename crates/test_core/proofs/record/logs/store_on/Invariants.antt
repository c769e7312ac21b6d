use Rattle.test_core.proofs.record.logs.store_on.Given as goal

abbrev pub ghosts-store_on_new-R-Ledger : goal.ghosts-store_on_new-R-Ledger
ghosts-store_on_new-R-Ledger a = record { name = a.calls.name; parts = a.calls.parts }

abbrev pub ghosts-store_on_new-R-Named : goal.ghosts-store_on_new-R-Named
ghosts-store_on_new-R-Named a = record { book = a.journal }
