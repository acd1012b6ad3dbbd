use Rattle.std.proofs.Common.{length, ap, ◌∙◌}
use Rattle.chunks.specs.Replays.{events}
use Rattle.chunks.proofs.Replaying.{opened_and_made}
use Rattle.chunks.proofs.replay.open_and_replay.Goals as goal

pub returns-clause-law : goal.returns-clause-law
returns-clause-law g c =
    let made = c.replay-used in
    let calls = c.args.calls.now in
    opened_and_made made.result _ _ c.open-chunk.result _ _ made.new.chunk c.open-chunk.ensures.cell c.open-chunk.ensures.opened c.open-chunk.ensures.law
    (ap (λ n. events n (length c.open-chunk.new.scratch) made.new.output calls made.new.answers) c.open-chunk.auto.work
    ∙ ap (λ n. events (length c.args.work.now) n made.new.output calls made.new.answers) c.open-chunk.auto.scratch)
    made.ensures.runs
