use Rattle.std.proofs.Common.{length, refl, arith}
use Rattle.chunks.proofs.Replaying.{replaying_more, made_all, always, shut_makes}
use Rattle.chunks.proofs.replay.replay.Goals as goal

pub loop-i-preserved : goal.loop-i-preserved
loop-i-preserved g c =
    let made = c.perform-answer in
    replaying_more (length c.args.work.now) (length c.args.scratch.now) c.args.calls.now c.args.answers.now c.args.output.now c.args.chunk.now
    c.loop-i.i c.loop-i.from c.loop-i.answers c.loop-i.output c.loop-i.chunk c.loop-i.invariant made.new.chunk _ made.result _ made.new.output _ _ _
    c.loop-i-test.true (omega arith) refl made.auto.output made.ensures.fits made.ensures.rest (omega arith) c.loop-i.auto.work c.loop-i.auto.scratch made.ensures.chain made.ensures.carried made.ensures.cell

pub returns-clause-runs : goal.returns-clause-runs
returns-clause-runs g c =
    made_all (length c.args.work.now) (length c.args.scratch.now) c.args.calls.now c.args.answers.now c.args.output.now c.args.chunk.now
    c.loop-i.i c.loop-i.from c.loop-i.answers c.loop-i.output c.loop-i.chunk c.loop-i.invariant (omega arith)

pub returns-clause-always : goal.returns-clause-always
returns-clause-always g c = λ o h law. always o h c.args.chunk.now _ c.loop-i.chunk law (returns-clause-runs g c)

pub returns-clause-refused : goal.returns-clause-refused
returns-clause-refused g c = λ n h. shut_makes c.args.chunk.now _ c.loop-i.chunk (returns-clause-runs g c) n h
