-- The count of a mark in braces.
use Rattle.std.proofs.Common.{◌≡◌, ℕ, true, false, List, [], ◌∷◌, None, refl}
use Rattle.conf_model.specs.ConfLines.{is_enclosed, enclosed}
use Rattle.conf_model.specs.ConfPairs.{count_of}
use Rattle.annotation_conf.specs.CountShows.{braces_count}

-- a mark in braces has the count that stands there
pub count-braces : (mark : List ℕ) → is_enclosed 123 125 mark ≡ true → count_of mark ≡ braces_count (enclosed mark)
count-braces [] h = cc
count-braces (c ∷ []) h = cc
count-braces (c ∷ d ∷ cs) h = rw h refl

-- a mark of two characters or more without braces has none
pub count-bare : (c d : ℕ) (cs : List ℕ) → is_enclosed 123 125 (c ∷ d ∷ cs) ≡ false → count_of (c ∷ d ∷ cs) ≡ None
count-bare c d cs h = rw h refl
