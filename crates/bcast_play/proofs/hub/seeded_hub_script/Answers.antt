-- The run begins without topics. If there is no seed, nothing is read.
use Rattle.std.proofs.Common.{None, refl, ◌∙◌}
use Rattle.bcast_text.proofs.Runs.{no_line}
use Rattle.bcast_play.specs.TopicsRun.{Followed, IsTopicsLine}
use Rattle.bcast_play.proofs.hub.seeded_hub_script.Goals as goal

pub returns-in-Ok : goal.returns-in-Ok
returns-in-Ok g c unfailed =
    let run = c.hub_script.ensures unfailed in (
      run.0,
      run.1,
      record { topics_are = λ name. run.2.topics_are name ∙ c.with_hasher.ensures name; names = run.2.names },
      run.3,
    )

pub returns-in-Err : goal.returns-in-Err
returns-in-Err g c _ =
    let first : Followed = record { topic_of = λ _. None; follower_of = λ _. None } in (
      first,
      first,
      record { topics_are = λ _. refl; names = λ _. refl },
      no_line (IsTopicsLine g.row.A.Denot) _ _ first _ tt (λ is. absurd (cc)) (λ line is. absurd (cc)),
    )
