use Rattle.test_core.proofs.record.replays.is_replayed.Given as goal

abbrev pub ghosts-record-R-Ledger : goal.ghosts-record-R-Ledger
ghosts-record-R-Ledger g a = record { name = a.calls.name; parts = a.calls.parts }

abbrev pub ghosts-record-R-Named : goal.ghosts-record-R-Named
ghosts-record-R-Named g a = record { book = a.journal }
