use Rattle.std.proofs.Common.{◌<◌, ◌≤◌, sym, ◌∙◌, ap, length, nat_lt, Bool, ℕ, arith}
use Rattle.std.specs.Option.{option_map}
use Rattle.std.proofs.lemmas.Bool.{lt-ltb, le-ltb}
use Rattle.conf_model.specs.Lookups.{role_most, roles_of}
use Rattle.layer_model.specs.declared.rule.Rule.TheVariants.{TooMany}
use Rattle.layer_model.specs.declared.rule.RoleAt.TheVariants as role
use Rattle.layer_rules.specs.MarkRules.{filled}
use Rattle.layer_rules.proofs.RecordLemmas.{found_in_range, passed_in_range}
use Rattle.layer_rules.proofs.mark_rules.too_many.Goals as goal

pub returns-then-filled-role_most : goal.returns-then-filled-role_most
returns-then-filled-role_most c =
    let kind = c.args.event.now.kind in
    let place = c.loop-role.role in
    let test : ℕ → Bool = λ p. nat_lt (role_most c.args.conf.now kind.n p) (filled p c.args.event.now.args) in
    let below : place < length (roles_of c.args.conf.now kind.n) = omega arith in
    let more : role_most c.args.conf.now kind.n place < filled place c.args.event.now.args = let same = ap (filled place) c.items-args.ensures in omega arith in
    sym (ap (option_map (λ p. TooMany (role.Event kind p))) (sym c.loop-role.invariant ∙ found_in_range test _ place below (lt-ltb _ _ more)))

pub loop-role-preserved : goal.loop-role-preserved
loop-role-preserved c =
    let kind = c.args.event.now.kind in
    let place = c.loop-role.role in
    let test : ℕ → Bool = λ p. nat_lt (role_most c.args.conf.now kind.n p) (filled p c.args.event.now.args) in
    let below : place < length (roles_of c.args.conf.now kind.n) = omega arith in
    let few : filled place c.args.event.now.args ≤ role_most c.args.conf.now kind.n place = let same = ap (filled place) c.items-args.ensures in omega arith in
    sym (passed_in_range test _ place below (le-ltb _ _ few)) ∙ c.loop-role.invariant
