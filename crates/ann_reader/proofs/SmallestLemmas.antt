-- The classes of a file are what its lines bring together, and no more.
use Rattle.std.proofs.Common.{◌≡◌, ℕ, ◌<◌, ◌==◌, ◌||◌, not, Bool, true, false, cond, eq-eqb, List, [], ◌∷◌, ◌++◌, length, refl, sym, ◌∙◌, ap, subst, Some, None, inl, inr, arith}
use Rattle.std.specs.List.{AllByRecursion, Contains, list_any, fold, cons_option}
use Rattle.std.proofs.lemmas.Bool.{or_cases, and_parts, and_from, eqb-true, false≢true}
use Rattle.std.proofs.lemmas.List.Elements.{All-contains_itself, recursion_from_All}
use Rattle.std.proofs.lemmas.List.Folds.{list_any-append}
use Rattle.mark_base.specs.declared.ann_id.AnnId.{AnnId}
use Rattle.conf_model.specs.Configurations.{Configuration}
use Rattle.layer_model.specs.declared.class.Class.{Class}
use Rattle.layer_model.specs.Annotations.{Annotations}
use Rattle.layer_model.specs.Classes.{rank, has_rank, is_among, ascending, shares, sharing, apart, joined_class}
use Rattle.layer_model.proofs.ClassOrder.{All-insert, All-filter}
use Rattle.layer_model.proofs.IdSets.{has_rank-ascending}
use Rattle.ann_reader.specs.Lines.{Line, lines_of}
use Rattle.ann_reader.specs.LineForms.{form_of}
use Rattle.ann_reader.specs.LineMeanings.{Said, said_of}
use Rattle.ann_reader.specs.AnnFiles.{IsAnn, said_in, joined_too, classes_of}
use Rattle.ann_reader.specs.Smallest.{holds_line, Leads, AreLinked, IsLinkedClass}
use Rattle.ann_reader.proofs.CoverLemmas.{Covered, all_covered}

-- ---- chains

joins : (kind a b c : ℕ) (xs ys : List Said) → Leads kind a b xs → Leads kind b c ys → Leads kind a c (xs ++ ys)
joins kind a b c [] ys h g = subst (λ place. Leads kind place c ys) (sym h) g
joins kind a b c (said ∷ xs) ys h g = (h.0, (h.1.0, h.1.1, joins kind h.1.0 b c xs ys h.1.2 g))

all_joined : (P : Said → Type 0) (xs ys : List Said) → AllByRecursion P xs → AllByRecursion P ys → AllByRecursion P (xs ++ ys)
all_joined P [] ys h g = g
all_joined P (x ∷ xs) ys h g = (h.0, all_joined P xs ys h.1 g)

longer : (xs ys : List Said) → 0 < length xs → 0 < length (xs ++ ys)
longer [] ys h = absurd (omega arith)
longer (x ∷ xs) ys h = omega arith

linked_on : (lines : List Said) (kind a b c : ℕ) → AreLinked lines kind a b → AreLinked lines kind b c → AreLinked lines kind a c
linked_on lines kind a b c h g = record {
  chain = h.chain ++ g.chain;
  taken = all_joined (Contains lines) h.chain g.chain h.taken g.taken;
  some = longer h.chain g.chain h.some;
  leads = joins kind a b c h.chain g.chain h.leads g.leads;
}

-- two members of one line
on_line : (lines : List Said) (said : Said) (a b : ℕ) → Contains lines said → has_rank a said.members ≡ true → has_rank b said.members ≡ true → AreLinked lines said.kind a b
on_line lines said a b there h g =
    let own : (said.kind == said.kind) ≡ true = eq-eqb said.kind said.kind refl in
    record {
      chain = said ∷ [];
      taken = (there, tt);
      some = omega arith;
      leads = (and_from (said.kind == said.kind) (has_rank a said.members) own h, (b, and_from (said.kind == said.kind) (has_rank b said.members) own g, refl));
    }

-- ---- a line that is joined

-- an ID of the line to which one of the class is linked
abbrev Meets : List Said → ℕ → List AnnId → ℕ → Type 0
Meets lines kind ids a = (place : ℕ) × (has_rank place ids ≡ true) × AreLinked lines kind a place × AreLinked lines kind place a

shared_place : (members ids : List AnnId) → list_any (λ id. is_among id ids) members ≡ true → (place : ℕ) × (has_rank place members ≡ true) × (has_rank place ids ≡ true)
shared_place [] ids h = absurd (false≢true h)
shared_place (member ∷ members) ids h =
    elim (is_among member ids) as (λ b. is_among member ids ≡ b → (b || list_any (λ id. is_among id ids) members) ≡ true → (place : ℕ) × (has_rank place (member ∷ members) ≡ true) × (has_rank place ids ≡ true)) [
      | true ↦ λ e _. (rank member, ap (λ b. b || has_rank (rank member) members) (eq-eqb (rank member) (rank member) refl), e)
      | false ↦ λ _ t. (let more = shared_place members ids t in (more.0, or_last (rank member == more.0) (has_rank more.0 members) more.1, more.2))
    ] refl h
  where
    or_last : (a b : Bool) → b ≡ true → (a || b) ≡ true
    or_last true b e = refl
    or_last false b e = e

-- a member of the classes that share one with the line meets the line
sharing_meets : (lines : List Said) (kind : ℕ) (ids : List AnnId) (classes : List Class) (a : ℕ) → AllByRecursion (IsLinkedClass lines) classes → has_rank a (sharing kind ids classes) ≡ true → Meets lines kind ids a
sharing_meets lines kind ids [] a all h = absurd (false≢true h)
sharing_meets lines kind ids (class ∷ classes) a all h =
    elim (shares kind ids class) as (λ b. shares kind ids class ≡ b → has_rank a (cond b (class.members ++ sharing kind ids classes) (sharing kind ids classes)) ≡ true → Meets lines kind ids a) [
      | true ↦ λ e g.
          let parts = and_parts (class.kind.n == kind) (list_any (λ id. is_among id ids) class.members) e in
          let same : class.kind.n ≡ kind = eqb-true class.kind.n kind parts.0 in
          let met = shared_place class.members ids parts.1 in
          elim (or_cases (has_rank a class.members) (has_rank a (sharing kind ids classes)) (sym (list_any-append (λ id. rank id == a) class.members (sharing kind ids classes)) ∙ g)) as (λ _. Meets lines kind ids a) [
            | inl t ↦ (met.0, met.2, subst (λ k. AreLinked lines k a met.0) same (all.0 a met.0 t met.1), subst (λ k. AreLinked lines k met.0 a) same (all.0 met.0 a met.1 t))
            | inr t ↦ sharing_meets lines kind ids classes a all.1 t
          ]
      | false ↦ λ e g. sharing_meets lines kind ids classes a all.1 g
    ] refl h

-- a member of the class that the line makes meets the line
joined_meets : (lines : List Said) (said : Said) (classes : List Class) (a : ℕ) → Contains lines said → AllByRecursion (IsLinkedClass lines) classes
    → has_rank a (ascending (said.members ++ sharing said.kind said.members classes)) ≡ true → Meets lines said.kind said.members a
joined_meets lines said classes a there all h =
    elim (or_cases (has_rank a said.members) (has_rank a (sharing said.kind said.members classes))
    (sym (list_any-append (λ id. rank id == a) said.members (sharing said.kind said.members classes)) ∙ sym (has_rank-ascending (said.members ++ sharing said.kind said.members classes) a) ∙ h)) as (λ _. Meets lines said.kind said.members a) [
      | inl t ↦ (a, t, on_line lines said a a there t t, on_line lines said a a there t t)
      | inr t ↦ sharing_meets lines said.kind said.members classes a all t
    ]

joined_linked : (lines : List Said) (said : Said) (classes : List Class) → Contains lines said → AllByRecursion (IsLinkedClass lines) classes
    → IsLinkedClass lines (joined_class (record { n = said.kind }) said.members classes)
joined_linked lines said classes there all a b h g =
    let from = joined_meets lines said classes a there all h in
    let to = joined_meets lines said classes b there all g in
    linked_on lines said.kind a from.0 b from.2 (linked_on lines said.kind from.0 to.0 b (on_line lines said from.0 to.0 there from.1 to.1) to.3)

-- ---- all lines

all_linked : (lines more : List Said) (classes : List Class) → AllByRecursion (Contains lines) more → AllByRecursion (IsLinkedClass lines) classes → AllByRecursion (IsLinkedClass lines) (fold joined_too classes more)
all_linked lines [] classes there all = all
all_linked lines (said ∷ more) classes there all =
    all_linked lines more (joined_too classes said) there.1
    (All-insert (IsLinkedClass lines) (joined_class (record { n = said.kind }) said.members classes) (apart said.kind said.members classes)
    (joined_linked lines said classes there.0 all) (All-filter (IsLinkedClass lines) (λ class. not (shares said.kind said.members class)) classes all))

pub classes_linked : (conf : Configuration) (text bytes : List ℕ) (layer : Annotations) → IsAnn conf text bytes layer → AllByRecursion (IsLinkedClass (said_in conf (lines_of bytes))) layer.classes
classes_linked conf text bytes layer is =
    subst (AllByRecursion (IsLinkedClass (said_in conf (lines_of bytes)))) (sym is.classes)
    (all_linked (said_in conf (lines_of bytes)) (said_in conf (lines_of bytes)) [] (recursion_from_All (Contains (said_in conf (lines_of bytes))) (said_in conf (lines_of bytes)) (All-contains_itself (said_in conf (lines_of bytes)))) tt)

-- ---- each line lies within one class

each_within : (conf : Configuration) (classes : List Class) (lines : List Line) → AllByRecursion (Covered conf classes) lines → AllByRecursion (λ said. list_any (holds_line said) classes ≡ true) (said_in conf lines)
each_within conf classes [] all = tt
each_within conf classes (line ∷ lines) all =
    elim (said_of conf (form_of line.bytes)) as (λ o. said_of conf (form_of line.bytes) ≡ o → AllByRecursion (λ said. list_any (holds_line said) classes ≡ true) (cons_option o (said_in conf lines))) [
      | None ↦ λ _. each_within conf classes lines all.1
      | Some said ↦ λ e. (all.0 said e, each_within conf classes lines all.1)
    ] refl

pub lines_within : (conf : Configuration) (text bytes : List ℕ) (layer : Annotations) → IsAnn conf text bytes layer → AllByRecursion (λ said. list_any (holds_line said) layer.classes ≡ true) (said_in conf (lines_of bytes))
lines_within conf text bytes layer is =
    subst (λ classes. AllByRecursion (λ said. list_any (holds_line said) classes ≡ true) (said_in conf (lines_of bytes))) (sym is.classes)
    (each_within conf (classes_of (said_in conf (lines_of bytes))) (lines_of bytes) (all_covered conf (lines_of bytes)))
