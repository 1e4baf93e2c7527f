use Rattle.std.proofs.Common.{◌≡◌, ◌<◌, ℕ, zero, suc, false, true, refl, arith}
use Rattle.layer_model.proofs.Numbers.{greatest_is, greatest_none}
use Rattle.layer_model.proofs.numbered.Numbered.greatest.Goals as goal

pub returns-in-Some : goal.returns-in-Some
returns-in-Some g c =
    rw (← c.self.view_is) (greatest_is c.self.inside.map.entries _ _ _ c.len-count.ensures.ordered c.in-Some.ensures.last c.in-Some.ensures.all_up_to)

no_more : (n : ℕ) → (0 < n → false ≡ true) → n ≡ 0
no_more zero h = refl
no_more (suc n) h = absurd (let e : false ≡ true = h (omega arith) in cc)

pub returns-in-None : goal.returns-in-None
returns-in-None g c = rw (← c.self.view_is) (greatest_none c.self.inside.map.entries (no_more _ c.in-None.ensures.variant.1))
