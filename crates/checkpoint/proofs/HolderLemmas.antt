-- The holders of an open snapshot.
use Rattle.std.proofs.Common.{◌≡◌, ◌&&◌, Bool, true, List, [], ◌∷◌, ◌++◌, ℕ, ◌≤◌, map, refl, ap, sym, ◌∙◌, subst, arith}
use Rattle.std.specs.Arc.{arc_value}
use Rattle.std.specs.declared.sync.Arc.{Arc}
use Rattle.std.specs.Cmp.Lexicographic.{slice_cmp}
use Rattle.std.specs.declared.cmp.Ordering.{Ordering}
use Rattle.std.specs.declared.cmp.Ordering.TheVariants.{Less, Equal, Greater}
use Rattle.std.specs.List.{All, AllByRecursion, list_all}
use Rattle.std.specs.List.Sorted.{IsStrictlySortedBy}
use Rattle.std.specs.Ordering.{is_lt, nat_cmp}
use Rattle.std.proofs.lemmas.Bool.{and_parts}
use Rattle.std.proofs.lemmas.List.{map-append}
use Rattle.std.proofs.lemmas.List.Elements.{All-push}
use Rattle.layer_model.specs.Annotations.{Annotations}
use Rattle.layer_model.specs.Snapshots.{row_of}
use Rattle.layer_model.specs.Coherent.{IsCoherent}
use Rattle.project_machine.specs.People.{comes_before}
use Rattle.checkpoint.specs.HeldSoFar.{HeldSoFar, IsHeldSoFar, follows, with_held}

-- each of some values passes a test of what they are seen as
all_mapped : {X Y : Type 0} (p : Y → Bool) (f : X → Y) (xs : List X) → list_all p (map f xs) ≡ list_all (λ x. p (f x)) xs
all_mapped p f [] = refl
all_mapped p f (x ∷ xs) = ap (λ b. p (f x) && b) (all_mapped p f xs)

pub followed : {Z : Type 0} (rows : List (List ℕ × Arc Annotations Z)) (who : List ℕ) → list_all (λ row. comes_before row.0 who) rows ≡ follows (map row_of rows) who
followed rows who = sym (all_mapped (λ row. comes_before row.0 who) row_of rows)

lt_less : (o : Ordering) → is_lt o ≡ true → o ≡ Less
lt_less Less e = refl
lt_less Equal e = cc
lt_less Greater e = cc

-- one more name behind the others
pub names_push : (held : List (List ℕ × Annotations)) (who : List ℕ) (layer : Annotations) → IsStrictlySortedBy (slice_cmp nat_cmp) (map (λ row. row.0) held) → follows held who ≡ true → IsStrictlySortedBy (slice_cmp nat_cmp) (map (λ row. row.0) (held ++ (who, layer) ∷ []))
unfolding IsStrictlySortedBy
names_push [] who layer up behind = (tt, tt)
names_push (h ∷ held) who layer up behind =
    let parts : (comes_before h.0 who ≡ true) × (follows held who ≡ true) = and_parts (comes_before h.0 who) (follows held who) behind in
    (below_next h held who layer up.0 (lt_less (slice_cmp nat_cmp h.0 who) parts.0), names_push held who layer up.1 parts.1)
  where
    below_next : (h : List ℕ × Annotations) (held : List (List ℕ × Annotations)) (who : List ℕ) (layer : Annotations) → AllByRecursion (λ z. slice_cmp nat_cmp h.0 z ≡ Less) (map (λ row. row.0) held) → slice_cmp nat_cmp h.0 who ≡ Less → AllByRecursion (λ z. slice_cmp nat_cmp h.0 z ≡ Less) (map (λ row. row.0) (held ++ (who, layer) ∷ []))
    below_next h [] who layer all less = (less, tt)
    below_next h (g ∷ held) who layer all less = (all.0, below_next h held who layer all.1 less)

-- a snapshot with one more layer is one still
pub one_more_held : (h : HeldSoFar) (who : List ℕ) (layer : Annotations) → IsHeldSoFar h → follows h.held who ≡ true → IsCoherent layer → IsHeldSoFar (with_held h who layer)
one_more_held h who layer is behind whole = record {
  two = is.two;
  few = is.few;
  ascending = names_push h.held who layer is.ascending behind;
  whole = All-push (λ (row : List ℕ × Annotations). IsCoherent row.1) h.held (who, layer) is.whole whole;
}

-- so it is of the layers that a program holds
pub no_held : {Z : Type 0} (doc layers : ℕ) (rows : List (List ℕ × Arc Annotations Z)) → rows ≡ [] → 2 ≤ layers → layers ≤ 16 → IsHeldSoFar (record { doc = doc; layers = layers; held = map row_of rows })
unfolding IsStrictlySortedBy
no_held doc layers [] none two few = record { two = two; few = few; ascending = tt; whole = λ k d within. absurd (omega arith) }
no_held doc layers (r ∷ rows) none two few = absurd cc

pub more_held : {Z : Type 0} (doc layers : ℕ) (rows new : List (List ℕ × Arc Annotations Z)) (who : List ℕ) (layer : Arc Annotations Z) → new ≡ rows ++ (who, layer) ∷ [] → IsHeldSoFar (record { doc = doc; layers = layers; held = map row_of rows }) → follows (map row_of rows) who ≡ true → IsCoherent (arc_value layer)
    → IsHeldSoFar (record { doc = doc; layers = layers; held = map row_of new })
more_held {Z} doc layers rows new who layer pushed is behind whole =
    let same : map row_of rows ++ (who, arc_value layer) ∷ [] ≡ map row_of new = sym (ap (λ (rs : List (List ℕ × Arc Annotations Z)). map row_of rs) pushed ∙ map-append row_of rows ((who, layer) ∷ [])) in
    subst (λ (held : List (List ℕ × Annotations)). IsHeldSoFar (record { doc = doc; layers = layers; held = held })) same (one_more_held (record { doc = doc; layers = layers; held = map row_of rows }) who (arc_value layer) is behind whole)

-- and a test of the rows that a program holds is one of their holders
pub behind_so : {Z : Type 0} (doc layers : ℕ) (rows seen : List (List ℕ × Arc Annotations Z)) (who : List ℕ) (h : HeldSoFar) (b : Bool) → b ≡ list_all (λ row. comes_before row.0 who) seen → seen ≡ rows → ◌≡◌ {A = HeldSoFar} (record { doc = doc; layers = layers; held = map row_of rows }) h → b ≡ follows h.held who
behind_so {Z} doc layers rows seen who h b told same view =
    told ∙ (ap (λ (rs : List (List ℕ × Arc Annotations Z)). list_all (λ row. comes_before row.0 who) rs) same ∙ (followed rows who ∙ ap (λ (k : HeldSoFar). follows k.held who) view))
