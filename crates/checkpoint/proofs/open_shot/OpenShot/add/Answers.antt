use Rattle.std.proofs.Common.{◌≡◌, true, sym, subst}
use Rattle.checkpoint.specs.HeldSoFar.{HeldSoFar, follows}
use Rattle.checkpoint.proofs.HolderLemmas.{more_held}
use Rattle.checkpoint.proofs.open_shot.OpenShot.add.Goals as goal

pub invariant_of-self-2 : goal.invariant_of-self-2
invariant_of-self-2 c =
    let behind = subst (λ (h : HeldSoFar). follows h.held c.args.who ≡ true) (sym c.self.view_is) c.requires.behind in
    more_held c.self.inside.doc c.self.inside.layers c.self.inside.held.items c.push.new.self.items c.args.who c.args.layer c.in_ok-push.ensures.items c.self.invariant behind c.requires.whole
