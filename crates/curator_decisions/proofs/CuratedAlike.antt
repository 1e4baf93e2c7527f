-- Marks that are made alike have one letter and one type; spans, events and relations that are the same under new IDs are
-- made alike where the new IDs tell the contents.
use Rattle.std.proofs.Common.{◌≡◌, ℕ, ◌+◌, ◌==◌, ◌&&◌, eqb-true, Bool, true, false, cond, List, [], ◌∷◌, ◌++◌, map, refl, sym, ◌∙◌, ap, subst, inl, inr, Some}
use Rattle.std.proofs.lemmas.Option.{same_Some}
use Rattle.std.proofs.lemmas.List.Sums.{sum_by-cons}
use Rattle.std.specs.List.{count_by, list_all, list_any}
use Rattle.mark_base.specs.declared.ann_id.AnnId.{AnnId}
use Rattle.mark_base.specs.declared.ann_id.Kind.{Kind}
use Rattle.mark_base.specs.declared.ann_id.Kind.TheVariants as letter
use Rattle.mark_base.specs.declared.arguments.Arg.{Arg}
use Rattle.mark_base.specs.declared.fragments.Frag.{Frag}
use Rattle.mark_base.proofs.IdLemmas.{id_of_parts}
use Rattle.conf_model.specs.declared.attr_target.AttrTarget.TheVariants.{Bound, Between}
use Rattle.layer_model.specs.declared.event.Event.{Event}
use Rattle.layer_model.specs.declared.mark.Mark.{Mark}
use Rattle.layer_model.specs.declared.mark.Mark.TheVariants as marked
use Rattle.layer_model.specs.Classes.{rank}
use Rattle.layer_model.specs.Coherent.{named, trigger_id}
use Rattle.layer_model.specs.Layers.{is_of_kind}
use Rattle.layer_model.specs.Span.{same_fragments}
use Rattle.layer_rules.specs.LayerRules.{is_arg, same_bag, same_events, same_relations, same_spans}
use Rattle.content_keys.specs.Numbers.{paired, sorted}
use Rattle.content_keys.specs.Nodes.{AreAlike, IsIn, Node}
use Rattle.content_keys.specs.LayerContents.{ends_of, event_node, link_of, node_of_mark, relation_node, span_node}
use Rattle.content_keys.proofs.BagLemmas.{IsIn-left, IsIn-map, IsIn-right, bags_carry, map_map}
use Rattle.content_keys.proofs.CountLemmas.{bags_counted, test}
use Rattle.content_keys.proofs.NumberLemmas.{paired_first, paired_second}
use Rattle.unanimous_merge.proofs.ListLemmas.{same_test}
use Rattle.curator_decisions.specs.Curated.{curated_letter, renamed, renamed_arg}
use Rattle.curator_decisions.proofs.CuratedOwn.{count_map}
use Rattle.curator_decisions.proofs.CuratedPairs.{any_is, both_true}
use Rattle.curator_decisions.proofs.CuratedParts.{any_none, none_some, target_in, type_in}

-- ---- letters and types of marks

abbrev pub letter_of_mark : Mark → Kind
letter_of_mark (marked.Span span) = letter.Text
letter_of_mark (marked.Event event) = letter.Event
letter_of_mark (marked.Relation relation) = letter.Relation
letter_of_mark (marked.Attribute attribute) = letter.Attribute
letter_of_mark (marked.Normal normal) = letter.Normal
letter_of_mark (marked.Note note) = letter.Note

pub letter_fits : (kind : Kind) (mark : Mark) → is_of_kind kind mark ≡ true → curated_letter kind ≡ letter_of_mark mark
letter_fits letter.Text (marked.Span x) h = refl
letter_fits letter.Event (marked.Event x) h = refl
letter_fits letter.Relation (marked.Relation x) h = refl
letter_fits letter.Attribute (marked.Attribute x) h = refl
letter_fits letter.Legacy (marked.Attribute x) h = refl
letter_fits letter.Normal (marked.Normal x) h = refl
letter_fits letter.Note (marked.Note x) h = refl
letter_fits kind mark h = absurd (let e : false ≡ true = h in cc)

pub event_like : (mark : Mark) → letter.Event ≡ letter_of_mark mark → (event : Event) × (mark ≡ marked.Event event)
event_like (marked.Event event) e = (event, refl)
event_like (marked.Span x) e = cc
event_like (marked.Relation x) e = cc
event_like (marked.Attribute x) e = cc
event_like (marked.Normal x) e = cc
event_like (marked.Note x) e = cc

pub type_renamed : (new : AnnId → AnnId) (mark : Mark) → type_in (renamed new mark) ≡ type_in mark
type_renamed new (marked.Span span) = refl
type_renamed new mark = refl

pub target_renamed : (new : AnnId → AnnId) (mark : Mark) → target_in (renamed new mark) ≡ target_in mark
target_renamed new (marked.Span span) = refl
target_renamed new mark = refl

-- ---- what is told by the own numbers of a mark

abbrev head_of : List ℕ → ℕ
head_of [] = 9
head_of (n ∷ ns) = n

abbrev second_of : List ℕ → ℕ
second_of [] = 9
second_of (n ∷ ns) = head_of ns

-- the sort of a mark, which its own numbers begin with
abbrev sort_of : Mark → ℕ
sort_of (marked.Span span) = 0
sort_of (marked.Event event) = 1
sort_of (marked.Relation relation) = 2
sort_of (marked.Attribute attribute) = 3
sort_of (marked.Normal normal) = 4
sort_of (marked.Note note) = 5

sort_told : (mark : Mark) (s : Node AnnId) → node_of_mark mark ≡ Some s → head_of s.own ≡ sort_of mark
sort_told (marked.Span x) s e = ap (λ (u : Node AnnId). head_of u.own) (sym (same_Some _ _ e))
sort_told (marked.Event x) s e = ap (λ (u : Node AnnId). head_of u.own) (sym (same_Some _ _ e))
sort_told (marked.Relation x) s e = ap (λ (u : Node AnnId). head_of u.own) (sym (same_Some _ _ e))
sort_told (marked.Attribute x) s e = ap (λ (u : Node AnnId). head_of u.own) (sym (same_Some _ _ e))
sort_told (marked.Normal x) s e = ap (λ (u : Node AnnId). head_of u.own) (sym (same_Some _ _ e))
sort_told (marked.Note x) s e = none_some e

-- marks with one letter and one type
pub record AreLike (a b : Mark) : Type 0 where
  pub letter : letter_of_mark a ≡ letter_of_mark b
  pub type_is : type_in a ≡ type_in b
  pub target_is : target_in a ≡ target_in b

like : (a b : Mark) (s t : Node AnnId) → node_of_mark a ≡ Some s → node_of_mark b ≡ Some t → s.own ≡ t.own → sort_of a ≡ sort_of b → AreLike a b
like (marked.Span a) (marked.Span b) s t p q e sort =
    let kind : a.kind.n ≡ b.kind.n = ap (λ (u : Node AnnId). second_of u.own) (same_Some _ _ p) ∙ ap second_of e ∙ ap (λ (u : Node AnnId). second_of u.own) (sym (same_Some _ _ q)) in
    record { letter = refl; type_is = λ i. Some (record { n = kind i }); target_is = λ i. Some (Bound (record { n = kind i })) }
like (marked.Event a) (marked.Event b) s t p q e sort =
    let kind : a.kind.n ≡ b.kind.n = ap (λ (u : Node AnnId). second_of u.own) (same_Some _ _ p) ∙ ap second_of e ∙ ap (λ (u : Node AnnId). second_of u.own) (sym (same_Some _ _ q)) in
    record { letter = refl; type_is = λ i. Some (record { n = kind i }); target_is = λ i. Some (Bound (record { n = kind i })) }
like (marked.Relation a) (marked.Relation b) s t p q e sort =
    let kind : a.kind.n ≡ b.kind.n = ap (λ (u : Node AnnId). second_of u.own) (same_Some _ _ p) ∙ ap second_of e ∙ ap (λ (u : Node AnnId). second_of u.own) (sym (same_Some _ _ q)) in
    record { letter = refl; type_is = refl; target_is = λ i. Some (Between (record { n = kind i })) }
like (marked.Attribute a) (marked.Attribute b) s t p q e sort = record { letter = refl; type_is = refl; target_is = refl }
like (marked.Normal a) (marked.Normal b) s t p q e sort = record { letter = refl; type_is = refl; target_is = refl }
like (marked.Note a) (marked.Note b) s t p q e sort = record { letter = refl; type_is = refl; target_is = refl }
like (marked.Span a) b s t p q e sort = cc
like (marked.Event a) b s t p q e sort = cc
like (marked.Relation a) b s t p q e sort = cc
like (marked.Attribute a) b s t p q e sort = cc
like (marked.Normal a) b s t p q e sort = cc
like (marked.Note a) b s t p q e sort = cc

pub alike_like : (a b : Mark) (s t : Node AnnId) → node_of_mark a ≡ Some s → node_of_mark b ≡ Some t → s.own ≡ t.own → AreLike a b
alike_like a b s t p q e = like a b s t p q e (sym (sort_told a s p) ∙ ap head_of e ∙ sort_told b t q)

-- ---- lists of arguments

all_is : {X : Type 0} (p : X → Bool) (xs : List X) → list_all p xs ≡ true → (x : X) → IsIn x xs → p x ≡ true
all_is p [] h x k = absurd k
all_is p (y ∷ ys) h x k =
    let two : (p y ≡ true) × (list_all p ys ≡ true) = both_true (p y) (list_all p ys) h in
    elim k [ inl same ↦ ap p same ∙ two.0 | inr m ↦ all_is p ys two.1 x m ]

count_none : {X : Type 0} (p : X → Bool) (xs : List X) → ((x : X) → IsIn x xs → p x ≡ false) → count_by p xs ≡ 0
count_none p [] h = refl
count_none p (x ∷ xs) h = sum_by-cons (λ y. cond (p y) 1 0) x xs ∙ (λ i. cond (h x (inl refl) i) 1 0 + count_none p xs (λ y k. h y (inr k)) i)

abbrev is_at : ℕ → ℕ → Arg → Bool
is_at role place arg = arg.role == role && rank arg.target == place

same_args : (arg : Arg) (role place : ℕ) → is_at role place arg ≡ true → (other : Arg) → is_at role place other ≡ is_arg arg other
same_args arg role place so other =
    let two : ((arg.role == role) ≡ true) × ((rank arg.target == place) ≡ true) = both_true (arg.role == role) (rank arg.target == place) so in
    let r : arg.role ≡ role = eqb-true _ _ two.0 in
    let t : rank arg.target ≡ place = eqb-true _ _ two.1 in
    λ i. same_test other.role role arg.role other.role (λ e. r ∙ sym e) (λ e. sym e ∙ r) i && same_test (rank other.target) place (rank arg.target) (rank other.target) (λ e. t ∙ sym e) (λ e. sym e ∙ t) i

counts_same : (a b : List Arg) → same_bag a b ≡ true → (role place : ℕ) → count_by (is_at role place) a ≡ count_by (is_at role place) b
counts_same a b same role place =
    elim (list_any (is_at role place) (a ++ b)) as (λ t. list_any (is_at role place) (a ++ b) ≡ t → count_by (is_at role place) a ≡ count_by (is_at role place) b) [
      | true ↦ λ e.
          let x : (arg : Arg) × (IsIn arg (a ++ b) × (is_at role place arg ≡ true)) = any_is (is_at role place) (a ++ b) e in
          let counts : count_by (is_arg x.0) a ≡ count_by (is_arg x.0) b = eqb-true _ _ (all_is (λ arg. count_by (is_arg arg) a == count_by (is_arg arg) b) (a ++ b) same x.0 x.1.0) in
          (λ i. count_by (λ other. same_args x.0 role place x.1.1 other i) a) ∙ counts ∙ sym (λ i. count_by (λ other. same_args x.0 role place x.1.1 other i) b)
      | false ↦ λ e.
          count_none (is_at role place) a (λ x k. any_none (is_at role place) (a ++ b) e x (IsIn-left x a b k))
          ∙ sym (count_none (is_at role place) b (λ x k. any_none (is_at role place) (a ++ b) e x (IsIn-right x a b k)))
    ] refl

-- ---- annotations that are the same under new IDs

frags_same : (a b : List Frag) → same_fragments a b ≡ true → ends_of a ≡ ends_of b
frags_same [] [] h = refl
frags_same [] (y ∷ ys) h = absurd (let e : false ≡ true = h in cc)
frags_same (x ∷ xs) [] h = absurd (let e : false ≡ true = h in cc)
frags_same (x ∷ xs) (y ∷ ys) h =
    let one : ((x.start == y.start && x.end == y.end) ≡ true) × (same_fragments xs ys ≡ true) = both_true (x.start == y.start && x.end == y.end) (same_fragments xs ys) h in
    let two : ((x.start == y.start) ≡ true) × ((x.end == y.end) ≡ true) = both_true (x.start == y.start) (x.end == y.end) one.0 in
    λ i. eqb-true _ _ two.0 i ∷ eqb-true _ _ two.1 i ∷ frags_same xs ys one.1 i

module _ (v w : AnnId → ℕ) (f g : AnnId → AnnId) where
  made : (s t u z : Node AnnId) → u ≡ s → z ≡ t → AreAlike v w u z → AreAlike v w s t
  made s t u z p q a =
      let P : Node AnnId → Type 0 = λ x. AreAlike v w x z in
      let Q : Node AnnId → Type 0 = AreAlike v w s in
      subst Q q (subst P p a)

  pub spans_alike : (a b : Mark) (s t : Node AnnId) → node_of_mark a ≡ Some s → node_of_mark b ≡ Some t → same_spans (renamed f a) (renamed g b) ≡ true → AreAlike v w s t
  spans_alike (marked.Span a) (marked.Span b) s t p q h =
      let two : ((a.kind.n == b.kind.n) ≡ true) × (same_fragments a.frags b.frags ≡ true) = both_true (a.kind.n == b.kind.n) (same_fragments a.frags b.frags) h in
      made s t (span_node a) (span_node b) (same_Some _ _ p) (same_Some _ _ q) record {
        own = λ i. 0 ∷ eqb-true _ _ two.0 i ∷ frags_same a.frags b.frags two.1 i;
        named = refl;
        bag = refl;
      }
  spans_alike (marked.Span a) b s t p q h = absurd (let e : false ≡ true = h in cc)
  spans_alike a b s t p q h = absurd (let e : false ≡ true = h in cc)

  -- new IDs tell the contents of what two marks name
  pub record AreTold (a b : List AnnId) : Type 0 where
    pub across : (y z : AnnId) → IsIn y a → IsIn z b → rank (f y) ≡ rank (g z) → v y ≡ w z
    pub within : (y z : AnnId) → IsIn y b → IsIn z b → rank (g y) ≡ rank (g z) → w y ≡ w z

  pub relations_alike : (a b : Mark) (s t : Node AnnId) → node_of_mark a ≡ Some s → node_of_mark b ≡ Some t → AreTold (named a) (named b) → same_relations (renamed f a) (renamed g b) ≡ true → AreAlike v w s t
  relations_alike (marked.Relation a) (marked.Relation b) s t p q told h =
      let one : ((a.kind.n == b.kind.n && rank (f a.first) == rank (g b.first)) ≡ true) × ((rank (f a.second) == rank (g b.second)) ≡ true) =
      both_true (a.kind.n == b.kind.n && rank (f a.first) == rank (g b.first)) (rank (f a.second) == rank (g b.second)) h in
      let two : ((a.kind.n == b.kind.n) ≡ true) × ((rank (f a.first) == rank (g b.first)) ≡ true) = both_true (a.kind.n == b.kind.n) (rank (f a.first) == rank (g b.first)) one.0 in
      let first : v a.first ≡ w b.first = told.across a.first b.first (inl refl) (inl refl) (eqb-true _ _ two.1) in
      let second : v a.second ≡ w b.second = told.across a.second b.second (inr (inl refl)) (inr (inl refl)) (eqb-true _ _ one.1) in
      made s t (relation_node a) (relation_node b) (same_Some _ _ p) (same_Some _ _ q) record {
        own = λ i. 2 ∷ eqb-true _ _ two.0 i ∷ [];
        named = λ i. first i ∷ second i ∷ [];
        bag = refl;
      }
  relations_alike (marked.Relation a) b s t p q told h = absurd (let e : false ≡ true = h in cc)
  relations_alike a b s t p q told h = absurd (let e : false ≡ true = h in cc)

  bags_alike : (a b : List Arg) → AreTold (map (λ arg. arg.target) a) (map (λ arg. arg.target) b) → same_bag (map (renamed_arg f) a) (map (renamed_arg g) b) ≡ true
      → sorted (map (λ p. paired p.0 (v p.1)) (map link_of a)) ≡ sorted (map (λ p. paired p.0 (w p.1)) (map link_of b))
  bags_alike a b told same =
      let xs : List (ℕ × AnnId) = map link_of (map (renamed_arg f) a) in
      let ys : List (ℕ × AnnId) = map link_of (map (renamed_arg g) b) in
      let counts : (role place : ℕ) → count_by (test rank role place) (map link_of (map (renamed_arg f) a)) ≡ count_by (test rank role place) (map link_of (map (renamed_arg g) b)) = λ role place.
      count_map link_of (test rank role place) (map (renamed_arg f) a) ∙ counts_same (map (renamed_arg f) a) (map (renamed_arg g) b) same role place ∙ sym (count_map link_of (test rank role place) (map (renamed_arg g) b)) in
      let ranked : sorted (map (λ p. paired p.0 (rank p.1)) (map link_of (map (renamed_arg f) a))) ≡ sorted (map (λ p. paired p.0 (rank p.1)) (map link_of (map (renamed_arg g) b))) =
      (bags_counted rank rank (map link_of (map (renamed_arg f) a)) (map link_of (map (renamed_arg g) b))).1 counts in
      let codes : sorted (map (λ (arg : Arg). paired arg.role (rank (f arg.target))) a) ≡ sorted (map (λ (arg : Arg). paired arg.role (rank (g arg.target))) b) =
      ap sorted (sym (folded rank f a)) ∙ ranked ∙ ap sorted (folded rank g b) in
      ap sorted (map_map (λ (p : ℕ × AnnId). paired p.0 (v p.1)) link_of a)
      ∙ bags_carry (λ (arg : Arg). paired arg.role (rank (f arg.target))) (λ (arg : Arg). paired arg.role (v arg.target)) (λ (arg : Arg). paired arg.role (rank (g arg.target))) (λ (arg : Arg). paired arg.role (w arg.target)) a b codes
      (λ x y i j e.
      let role : x.role ≡ y.role = paired_first x.role (rank (f x.target)) y.role (rank (g y.target)) e in
      let target : v x.target ≡ w y.target =
      told.across x.target y.target (IsIn-map (λ (arg : Arg). arg.target) x a i) (IsIn-map (λ (arg : Arg). arg.target) y b j) (paired_second x.role (rank (f x.target)) y.role (rank (g y.target)) e) in
      λ k. paired (role k) (target k))
      (λ x y i j e.
      let role : x.role ≡ y.role = paired_first x.role (rank (g x.target)) y.role (rank (g y.target)) e in
      let target : w x.target ≡ w y.target =
      told.within x.target y.target (IsIn-map (λ (arg : Arg). arg.target) x b i) (IsIn-map (λ (arg : Arg). arg.target) y b j) (paired_second x.role (rank (g x.target)) y.role (rank (g y.target)) e) in
      λ k. paired (role k) (target k))
      ∙ ap sorted (sym (map_map (λ (p : ℕ × AnnId). paired p.0 (w p.1)) link_of b))
    where
      folded : (c : AnnId → ℕ) (h : AnnId → AnnId) (args : List Arg) → map (λ p. paired p.0 (c p.1)) (map link_of (map (renamed_arg h) args)) ≡ map (λ (arg : Arg). paired arg.role (c (h arg.target))) args
      folded c h args = ap (map (λ (p : ℕ × AnnId). paired p.0 (c p.1))) (map_map link_of (renamed_arg h) args) ∙ map_map (λ (p : ℕ × AnnId). paired p.0 (c p.1)) (λ (arg : Arg). (arg.role, h arg.target)) args

  pub events_alike : (a b : Mark) (s t : Node AnnId) → node_of_mark a ≡ Some s → node_of_mark b ≡ Some t → AreTold (named a) (named b) → ((y : AnnId) → IsIn y (named a) → (f y).kind ≡ curated_letter y.kind)
      → ((y : AnnId) → IsIn y (named b) → (g y).kind ≡ curated_letter y.kind) → same_events (renamed f a) (renamed g b) ≡ true → AreAlike v w s t
  events_alike (marked.Event a) (marked.Event b) s t p q told ours theirs h =
      let one : ((a.kind.n == b.kind.n && (f (trigger_id a)).number == (g (trigger_id b)).number) ≡ true) × (same_bag (map (renamed_arg f) a.args) (map (renamed_arg g) b.args) ≡ true) =
      both_true (a.kind.n == b.kind.n && (f (trigger_id a)).number == (g (trigger_id b)).number) (same_bag (map (renamed_arg f) a.args) (map (renamed_arg g) b.args)) h in
      let two : ((a.kind.n == b.kind.n) ≡ true) × (((f (trigger_id a)).number == (g (trigger_id b)).number) ≡ true) =
      both_true (a.kind.n == b.kind.n) ((f (trigger_id a)).number == (g (trigger_id b)).number) one.0 in
      let number : (f (trigger_id a)).number ≡ (g (trigger_id b)).number = eqb-true _ _ two.1 in
      let stated : f (trigger_id a) ≡ g (trigger_id b) =
      id_of_parts (f (trigger_id a)) letter.Text (g (trigger_id b)).number (ours (trigger_id a) (inl refl)) number ∙ sym (id_of_parts (g (trigger_id b)) letter.Text (g (trigger_id b)).number (theirs (trigger_id b) (inl refl)) refl) in
      let trigger : v (trigger_id a) ≡ w (trigger_id b) = told.across (trigger_id a) (trigger_id b) (inl refl) (inl refl) (ap rank stated) in
      made s t (event_node a) (event_node b) (same_Some _ _ p) (same_Some _ _ q) record {
        own = λ i. 1 ∷ eqb-true _ _ two.0 i ∷ [];
        named = λ i. trigger i ∷ [];
        bag = bags_alike a.args b.args record { across = λ y z i j. told.across y z (inr i) (inr j); within = λ y z i j. told.within y z (inr i) (inr j) } one.1;
      }
  events_alike (marked.Event a) b s t p q told ours theirs h = absurd (let e : false ≡ true = h in cc)
  events_alike a b s t p q told ours theirs h = absurd (let e : false ≡ true = h in cc)
