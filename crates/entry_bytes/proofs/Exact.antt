-- A field that is read is the field that was written, and what was written is read again.
use Rattle.std.proofs.Common.{◌≡◌, ℕ, suc, ◌+◌, ◌<◌, ◌≤◌, Bool, true, false, cond, ltb, List, ◌∷◌, ◌++◌, length, get_or, take, drop, Option, Some, None, refl, sym, ap, subst, ◌∙◌, append_assoc, arith, inl, inr}
use Rattle.std.specs.Prelude.{option_map, option_and_then}
use Rattle.std.proofs.lemmas.Bool.{cases_lt, ltb-false, le-ltb}
use Rattle.std.proofs.lemmas.List.{take_at, drop_at, take-append-drop, length-append, length-take, get_or-drop, get_or-take, get_or_past}
use Rattle.entry_bytes.specs.Reading.{◌&◌, front_at}

abbrev pub IsBytes : List ℕ → Type 0
IsBytes bytes = (i : ℕ) → get_or bytes i 0 < 256

pub IsBytes-drop : (n : ℕ) (bytes : List ℕ) → IsBytes bytes → IsBytes (drop n bytes)
IsBytes-drop n bytes h i = rw get_or-drop (h (n + i))

pub IsBytes-take : (n : ℕ) (bytes : List ℕ) → IsBytes bytes → IsBytes (take n bytes)
IsBytes-take n bytes h i =
    elim (cases_lt i n) [
      | inl lt ↦ rw (get_or-take n bytes i 0 lt) (h i)
      | inr le ↦ rw (get_or_past (take n bytes) i 0 (omega (arith, length-take n bytes))) (omega arith)
    ]

pub IsBytes-rest : (b : ℕ) (bytes : List ℕ) → IsBytes (b ∷ bytes) → IsBytes bytes
IsBytes-rest b bytes h i = h (suc i)

-- the value of a step that is there
pub and_then_some : {A B : Type 0} (f : A → Option B) (o : Option A) (y : B) → option_and_then f o ≡ Some y → (x : A) × (o ≡ Some x) × (f x ≡ Some y)
and_then_some f (Some x) y e = (x, refl, e)
and_then_some f None y e = absurd cc

pub map_some : {A B : Type 0} (f : A → B) (o : Option A) (y : B) → option_map f o ≡ Some y → (x : A) × (o ≡ Some x) × (f x ≡ y)
map_some f (Some x) y e = (x, refl, cc)
map_some f None y e = absurd cc

pub cond_some : {A : Type 0} (b : Bool) (x y : A) → cond b (Some x) None ≡ Some y → (b ≡ true) × (x ≡ y)
cond_some true x y e = (refl, cc)
cond_some false x y e = absurd cc

-- what a reader took from the front
pub record Takes (bytes text rest : List ℕ) : Type 0 where
  pub parts : bytes ≡ text ++ rest
  pub rest_fits : IsBytes rest

pub Takes-then : (a x b y c : List ℕ) → Takes a x b → Takes b y c → Takes a (x ++ y) c
Takes-then a x b y c p q = record { parts = p.parts ∙ ap (λ (t : List ℕ). x ++ t) q.parts ∙ sym (append_assoc x y c); rest_fits = q.rest_fits }

-- what is read was written so
pub record Taking {A : Type 0} (put : A → List ℕ) (Fits : A → Type 0) (field : List ℕ → Option (A × List ℕ)) : Type 0 where
  pub takes : (bytes : List ℕ) (a : A) (rest : List ℕ) → IsBytes bytes → field bytes ≡ Some (a, rest) → Takes bytes (put a) rest × Fits a

-- what is written is read again, whatever follows
pub record Again {A : Type 0} (put : A → List ℕ) (Fits : A → Type 0) (field : List ℕ → Option (A × List ℕ)) : Type 0 where
  pub again : (a : A) (rest : List ℕ) → Fits a → field (put a ++ rest) ≡ Some (a, rest)

pub both_take : {A B : Type 0} {p : A → List ℕ} {F : A → Type 0} {f : List ℕ → Option (A × List ℕ)} {q : B → List ℕ} {G : B → Type 0} {g : List ℕ → Option (B × List ℕ)}
    → Taking p F f → Taking q G g → Taking (λ (x : A × B). p x.0 ++ q x.1) (λ (x : A × B). F x.0 × G x.1) (f & g)
both_take {A = A} {B = B} {p = p} {F = F} {f = f} {q = q} {G = G} {g = g} first second = record {
  takes = λ bytes a rest fits e.
      let x = and_then_some (λ (x : A × List ℕ). option_map (λ (y : B × List ℕ). ((x.0, y.0), y.1)) (g x.1)) (f bytes) (a, rest) e in
      let y = map_some (λ (y : B × List ℕ). ((x.0.0, y.0), y.1)) (g x.0.1) (a, rest) x.2 in
      let t = first.takes bytes x.0.0 x.0.1 fits x.1 in
      let u = second.takes x.0.1 y.0.0 y.0.1 t.0.rest_fits y.1 in
      let whole = Takes-then bytes (p x.0.0) x.0.1 (q y.0.0) y.0.1 t.0 u.0 in
      subst (λ (z : (A × B) × List ℕ). Takes bytes (p z.0.0 ++ q z.0.1) z.1 × (F z.0.0 × G z.0.1)) y.2 (whole, (t.1, u.1));
}

pub both_again : {A B : Type 0} {p : A → List ℕ} {F : A → Type 0} {f : List ℕ → Option (A × List ℕ)} {q : B → List ℕ} {G : B → Type 0} {g : List ℕ → Option (B × List ℕ)}
    → Again p F f → Again q G g → Again (λ (x : A × B). p x.0 ++ q x.1) (λ (x : A × B). F x.0 × G x.1) (f & g)
both_again {A = A} {B = B} {p = p} {F = F} {f = f} {q = q} {G = G} {g = g} first second = record {
  again = λ a rest fits.
      ap (λ (l : List ℕ). (f & g) l) (append_assoc (p a.0) (q a.1) rest) ∙ rw (first.again a.0 (q a.1 ++ rest) fits.0, second.again a.1 rest fits.1) refl;
}

-- so many bytes
pub record IsFront (n : ℕ) (bytes front rest : List ℕ) : Type 0 where
  pub taken : Takes bytes front rest
  pub size : length front ≡ n
  pub fits : IsBytes front

guard_some : {A : Type 0} (b : Bool) (x y : A) → cond b None (Some x) ≡ Some y → (b ≡ false) × (x ≡ y)
guard_some true x y e = absurd cc
guard_some false x y e = (refl, cc)

pub front_takes : (n : ℕ) (bytes front rest : List ℕ) → IsBytes bytes → front_at n bytes ≡ Some (front, rest) → IsFront n bytes front rest
front_takes n bytes front rest fits e =
    let g = guard_some (ltb (length bytes) n) (take n bytes, drop n bytes) (front, rest) e in
    let long : n ≤ length bytes = ltb-false _ _ g.0 in
    subst (λ (x : List ℕ × List ℕ). IsFront n bytes x.0 x.1) g.1 (record {
      taken = record { parts = sym (take-append-drop n bytes); rest_fits = IsBytes-drop n bytes fits };
      size = omega (arith, length-take n bytes);
      fits = IsBytes-take n bytes fits;
    })

pub front_again : (n : ℕ) (front rest : List ℕ) → length front ≡ n → front_at n (front ++ rest) ≡ Some (front, rest)
front_again n front rest size =
    let long : ltb (length (front ++ rest)) n ≡ false = le-ltb _ _ (omega (arith, length-append front rest, size)) in
    rw (long, take_at front rest n size, drop_at front rest n size) refl
