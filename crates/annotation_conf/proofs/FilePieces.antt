-- Pieces behind pieces, one at a time.
use Rattle.std.proofs.Common.{◌≡◌, ◌<◌, ◌+◌, ℕ, Bool, true, false, ◌||◌, ◌&&◌, List, [], ◌∷◌, ◌++◌, length, get_or, drop, refl, sym, ap, ◌∙◌, append_assoc, add-one, drop-cons, map, Bor}
use Rattle.std.specs.List.{list_any}
use Rattle.conf_model.specs.ConfPairs.{Piece, Shapeless, Keyed, Pair}
use Rattle.conf_model.specs.ConfFaults.{pairs_of, is_shapeless, is_kinds, is_pair, kinds_lead}
use Rattle.annotation_conf.specs.FileKept.{Behind, keyed_of}
use Rattle.annotation_conf.specs.FileGrows.{with_pieces, with_piece}

or_assoc : (a b c : Bool) → (a || b) || c ≡ a || (b || c)
or_assoc true b c = refl
or_assoc false b c = refl

-- a role pair behind pieces, of which one more comes first
late_step : (l k s q p f : Bool) → ((l || k && (q || false) || (s && false || false)) || (k || (s || false)) && p || f) ≡ (l || k && (q || p) || (s && p || f))
late_step true k s q p f = refl
late_step false true s true p f = refl
late_step false true true false true f = refl
late_step false true true false false f = refl
late_step false true false false true f = refl
late_step false true false false false f = refl
late_step false false true q true f = refl
late_step false false true q false f = refl
late_step false false false q p f = refl

any_cons : (p : Piece) (ps : List Piece) → list_any is_shapeless (p ∷ ps) ≡ list_any is_shapeless (p ∷ []) || list_any is_shapeless ps
any_cons Shapeless ps = refl
any_cons (Keyed k v) ps = refl
any_cons (Pair r m a) ps = refl

keyed_cons : (p : Piece) (ps : List Piece) → keyed_of (p ∷ ps) ≡ keyed_of (p ∷ []) ++ keyed_of ps
keyed_cons Shapeless ps = refl
keyed_cons (Keyed k v) ps = refl
keyed_cons (Pair r m a) ps = refl

pairs_cons : (p : Piece) (ps : List Piece) → pairs_of (p ∷ ps) ≡ pairs_of (p ∷ []) ++ pairs_of ps
pairs_cons Shapeless ps = refl
pairs_cons (Keyed k v) ps = refl
pairs_cons (Pair r m a) ps = refl

-- one piece, and then more
pub with_pieces-cons : (b : Behind) (p : Piece) (ps : List Piece) → with_pieces (with_piece b p) ps ≡ with_pieces b (p ∷ ps)
with_pieces-cons b p ps =
    λ i. record {
      shapeless = (or_assoc b.shapeless (list_any is_shapeless (p ∷ [])) (list_any is_shapeless ps) ∙ ap (λ c. b.shapeless || c) (sym (any_cons p ps))) i;
      kinds = kinds_step b.kinds (is_kinds p) (list_any is_kinds ps) i;
      late = late_step b.late b.kinds (is_kinds p) (is_pair p) (list_any is_pair ps) (kinds_lead ps) i;
      keyed = (append_assoc b.keyed (keyed_of (p ∷ [])) (keyed_of ps) ∙ ap (λ xs. b.keyed ++ xs) (sym (keyed_cons p ps))) i;
      pairs = (append_assoc b.pairs (pairs_of (p ∷ [])) (pairs_of ps) ∙ ap (λ xs. b.pairs ++ xs) (sym (pairs_cons p ps))) i;
    }
  where
    kinds_step : (k s r : Bool) → (k || (s || false) || r) ≡ (k || (s || r))
    kinds_step true s r = refl
    kinds_step false true r = refl
    kinds_step false false r = refl

-- the pieces of parts, with one part more read
pub with_pieces-step : (f : List ℕ → Piece) (items : List (Bor (List ℕ))) (i : ℕ) (d : Bor (List ℕ)) (b next all : Behind) → i < length items
    → with_pieces b (map f (map (λ part. part.now) (drop i items))) ≡ all → next ≡ with_piece b (f (get_or items i d).now)
    → with_pieces next (map f (map (λ part. part.now) (drop (i + 1) items))) ≡ all
with_pieces-step f items i d b next all h before e =
    let rest : List (Bor (List ℕ)) = drop (i + 1) items in
    let cut : drop i items ≡ get_or items i d ∷ rest = rw (add-one) (drop-cons items i d h) in
    let old : with_pieces b (map f (map (λ part. part.now) (get_or items i d ∷ rest))) ≡ all = rw cut at before in
    rw e (with_pieces-cons b (f (get_or items i d).now) (map f (map (λ part. part.now) rest)) ∙ old)
