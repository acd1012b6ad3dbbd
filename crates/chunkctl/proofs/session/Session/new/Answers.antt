use Rattle.std.proofs.Common.{◌≡◌, replicate, vec_len, ap, ◌∙◌, rules}
use Rattle.chunkctl.proofs.session.Session.new.Goals as goal

pub returns-clause-output : goal.returns-clause-output
returns-clause-output c =
    let long : vec_len c.in_ok-buffers.buffers.output ≡ 4096 = search rules in
    c.fill.ensures.items (search rules) ∙ ap (λ k. replicate k 238) long
