-- Members that leave classes one after another, and what gives them back.
use Rattle.std.specs.Prelude.{◌≡◌, ℕ, ◌==◌, not, List, [], ◌∷◌, ◌++◌, Option, find, unwrap_or, option_map}
use Rattle.mark_base.specs.declared.ann_id.AnnId.{AnnId}
use Rattle.layer_model.specs.declared.class.Class.{Class}
use Rattle.layer_model.specs.Classes.{class_with, joined, parted, rank}

-- members leave the classes of a relation type, one after another
abbrev pub all_parted : ℕ → List AnnId → List Class → List Class
all_parted kind [] classes = classes
all_parted kind (id ∷ ids) classes = all_parted kind ids (parted kind id classes)

-- the members of each of these become one class, those of the last first
abbrev pub all_joined : List Class → List Class → List Class
all_joined [] classes = classes
all_joined (class ∷ more_) classes = joined class.kind class.members (all_joined more_ classes)

-- the first of some members that is not the one of an ID, or that one where there is no other (private calls only)
abbrev pub first_other : AnnId → List AnnId → AnnId
first_other id members = unwrap_or (find (λ member. not (rank member == rank id)) members) id

-- a member that stays in the class of a relation type which the one of an ID leaves, where it is in one (private calls only)
abbrev pub beside : ℕ → AnnId → List Class → Option AnnId
beside kind id classes = option_map (λ class. first_other id class.members) (class_with kind id classes)

-- one of some classes, and the others in their order (private calls only)
pub record IsOneOf (class : Class) (others classes : List Class) : Type 0 where
  pub front : List Class
  pub behind : List Class
  pub all : classes ≡ front ++ class ∷ behind
  pub less : others ≡ front ++ behind
