use Rattle.std.proofs.Common.{◌≡◌, ◌≤◌, nat_eq, length, sym, ◌∙◌, arith, rules, tests}
use Rattle.std.specs.List.{list_any}
use Rattle.std.proofs.lemmas.Iterator.{YieldsList-from_range}
use Rattle.std.proofs.lemmas.Iterator.Search.{all_from_yields_List}
use Rattle.std.proofs.lemmas.Bool.Decides.{nat_tests}
use Rattle.transpose.specs.Transpose.{has_axes, is_order}
use Rattle.transpose.proofs.Orders.{order_tested}
use Rattle.transpose.proofs.axis_order.is_order.Goals as goal

pub returns-then-contains : goal.returns-then-contains
returns-then-contains c =
    let xs = c.args.order.now in
    let all : c.all.result ≡ has_axes xs = all_from_yields_List (λ a. list_any (λ y. nat_eq y a) xs) _ _ c.all.result c.all.ensures.ran (YieldsList-from_range 0 (length xs) (length xs) (cc) (omega arith)) (λ x b q k. search (rules, tests)) in
    let dims : (1 ≤ length xs) × (length xs ≤ 4) = search (rules, tests) in
    let v : c.all.result ≡ is_order xs = grind (arith, nat_tests) in
    let t = order_tested xs in
    record { value = v; ordered = (λ e. t.0 (sym v ∙ e), λ p. v ∙ t.1 p) }
