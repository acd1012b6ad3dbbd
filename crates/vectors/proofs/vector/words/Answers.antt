use Rattle.std.proofs.Common.{◌≡◌, length, rules}
use Rattle.std.specs.List.{prefix_len}
use Rattle.text.specs.Words.{blank}
use Rattle.vectors.proofs.vector.words.Goals as goal

pub returns : goal.returns
returns c =
    let end : prefix_len blank c.in_ok-_peer.rest.now ≡ length c.in_ok-_peer.rest.now = search rules in
    (c.in_ok-_peer._peer.now, (c.in_ok-kind.rest.now, c.in_ok-kind.ensures, (c.in_ok-params.rest.now, c.in_ok-params.ensures, (c.in_ok-input.rest.now, c.in_ok-input.ensures, (c.in_ok-output.rest.now, c.in_ok-output.ensures, (c.in_ok-_peer.rest.now, c.in_ok-_peer.ensures, end))))))
