-- Each field of a command is read as it was written.
use Rattle.std.proofs.Common.{◌≡◌, ℕ, zero, suc, ◌^◌, ◌<◌, ◌≤◌, Bool, true, false, cond, eqb, ltb, min, List, [], ◌∷◌, ◌++◌, length, Option, Some, None, refl, sym, ap, subst, ◌∙◌, append_assoc, arith}
use Rattle.std.specs.Prelude.{option_map, is_none, ◌&&◌, IfSome}
use Rattle.std.specs.Str.{is_utf8}
use Rattle.std.specs.List.{flat_map, AllByRecursion}
use Rattle.std.proofs.lemmas.Bool.{ltb-true, ltb-false, lt-ltb, le-ltb, eqb-true, false≢true}
use Rattle.std.proofs.lemmas.Option.{same_Some, none-some}
use Rattle.std.proofs.lemmas.Str.{IsUtf8-from_is_utf8, is_utf8-from_IsUtf8}
use Rattle.std.proofs.lemmas.List.Concat.{flat_map-cons}
use Rattle.mark_base.specs.declared.ann_id.AnnId.{AnnId}
use Rattle.mark_base.specs.declared.ann_id.Kind.{Kind}
use Rattle.mark_base.specs.declared.ann_id.Kind.TheVariants as letter
use Rattle.mark_base.specs.declared.fragments.Frag.{Frag}
use Rattle.mark_base.specs.declared.named_args.NamedArg.{NamedArg}
use Rattle.mark_base.specs.Names.{name_fault}
use Rattle.mark_base.specs.ReadIds.{id_at}
use Rattle.mark_base.proofs.IdLemmas.{id_at-id}
use Rattle.layer_model.specs.Classes.{letter_place}
use Rattle.entry_bytes.specs.Fields.{u32_bytes, text_bytes}
use Rattle.entry_bytes.specs.Reading.{◌&◌, made, passing, front_at, byte_at, flag_at, u32_at}
use Rattle.entry_bytes.proofs.Exact.{IsBytes, and_then_some, map_some, Takes, Takes-then, Taking, Again, both_take, both_again, front_takes, front_again}
use Rattle.entry_bytes.proofs.FieldLaws.{one, byte_takes, byte_again, passes, Always, flag_byte, flag_takes, flag_again, u32_takes, u32_again}
use Rattle.command_bytes.specs.CommandBytes.{name_bytes, id_bytes, list_bytes, frag_bytes, arg_bytes, value_bytes}
use Rattle.command_bytes.specs.CommandReading.{is_name, long_at, spelling_at, name_at, letter_at, id_of, ann_id_at, frag_of, frag_at, arg_of, arg_at, list_on, list_at, value_at}
use Rattle.command_bytes.specs.CommandValues.{IsName, IsFrag}
use Rattle.command_bytes.proofs.NameLemmas.{name_size}

-- ---- names

both_true : (b c : Bool) → (b && c) ≡ true → (b ≡ true) × (c ≡ true)
both_true true true e = (refl, refl)
both_true true false e = absurd cc
both_true false c e = absurd cc

none_is : {A : Type 0} (o : Option A) → is_none o ≡ true → o ≡ None
none_is None e = refl
none_is (Some x) e = absurd cc

name_is : (name : List ℕ) → is_name name ≡ true → IsName name
name_is name e =
    let b = both_true (is_utf8 name) (is_none (name_fault name)) e in
    record { utf8 = IsUtf8-from_is_utf8 name b.0; spelling = none_is (name_fault name) b.1 }

is_name-from : (name : List ℕ) → IsName name → is_name name ≡ true
is_name-from name is = rw (is_utf8-from_IsUtf8 name is.utf8, is.spelling) refl

-- bytes behind their count are written as a name is
spelling_takes : (count : ℕ) (bytes : List ℕ) (name rest : List ℕ) → IsBytes bytes → count < 256 → spelling_at count bytes ≡ Some (name, rest) → Takes (count ∷ bytes) (name_bytes name) rest
unfolding spelling_at long_at
spelling_takes count bytes name rest fits small e = by_count (eqb count 255) refl e
  where
    by_count : (b : Bool) → eqb count 255 ≡ b → cond b (long_at bytes) (front_at count bytes) ≡ Some (name, rest) → Takes (count ∷ bytes) (name_bytes name) rest
    by_count true is e =
        let n = and_then_some (λ (n : ℕ × List ℕ). front_at n.0 n.1) (passing (λ n. ltb 254 n) u32_at bytes) (name, rest) e in
        let p = passes (λ n. ltb 254 n) u32_at bytes n.0.0 n.0.1 n.1 in
        let t = u32_takes.takes bytes n.0.0 n.0.1 fits p.field in
        let f = front_takes n.0.0 n.0.1 name rest t.0.rest_fits n.2 in
        let whole : Takes bytes (u32_bytes n.0.0 ++ name) rest = Takes-then bytes (u32_bytes n.0.0) n.0.1 name rest t.0 f.taken in
        let sized : Takes bytes (u32_bytes (length name) ++ name) rest = subst (λ (k : ℕ). Takes bytes (u32_bytes k ++ name) rest) (sym f.size) whole in
        let long : 254 < n.0.0 = ltb-true 254 n.0.0 p.test_is in
        let form : name_bytes name ≡ 255 ∷ text_bytes name = rw (le-ltb (length name) 255 (omega (arith, f.size))) refl in
        let parts : count ∷ bytes ≡ (255 ∷ text_bytes name) ++ rest = rw (eqb-true count 255 is) (ap (λ (l : List ℕ). 255 ∷ l) sized.parts) in
        record { parts = parts ∙ ap (λ (l : List ℕ). l ++ rest) (sym form); rest_fits = sized.rest_fits }
    by_count false isnt e =
        let f = front_takes count bytes name rest fits e in
        let other : count ≡ 255 → ⊥ = λ is. false≢true (sym (subst (λ (k : ℕ). eqb k 255 ≡ false) is isnt)) in
        let short : length name < 255 = below count small other f.size in
        let form : name_bytes name ≡ length name ∷ name = rw (lt-ltb (length name) 255 short) refl in
        let parts : count ∷ bytes ≡ (length name ∷ name) ++ rest = rw f.size (ap (λ (l : List ℕ). count ∷ l) f.taken.parts) in
        record { parts = parts ∙ ap (λ (l : List ℕ). l ++ rest) (sym form); rest_fits = f.taken.rest_fits }
      where
        below : (k : ℕ) → k < 256 → (k ≡ 255 → ⊥) → length name ≡ k → length name < 255
        below k lt other size = grind arith

pub name_takes : Taking name_bytes IsName name_at
unfolding name_at
name_takes = record {
  takes = λ bytes name rest fits e.
      let n = and_then_some (λ (n : ℕ × List ℕ). passing is_name (spelling_at n.0) n.1) (byte_at bytes) (name, rest) e in
      let p = passes is_name (spelling_at n.0.0) n.0.1 name rest n.2 in
      let t = byte_takes.takes bytes n.0.0 n.0.1 fits n.1 in
      let s = spelling_takes n.0.0 n.0.1 name rest t.0.rest_fits t.1 p.field in
      (record { parts = t.0.parts ∙ s.parts; rest_fits = s.rest_fits }, name_is name p.test_is);
}

pub name_again : Again name_bytes IsName name_at
unfolding name_at spelling_at long_at
name_again = record { again = λ name rest fits. by_size name rest fits (ltb (length name) 255) refl }
  where
    by_size : (name rest : List ℕ) → IsName name → (b : Bool) → ltb (length name) 255 ≡ b → name_at (cond b (length name ∷ name) (255 ∷ text_bytes name) ++ rest) ≡ Some (name, rest)
    by_size name rest fits true is =
        let short : length name < 255 = ltb-true (length name) 255 is in
        let other : eqb (length name) 255 ≡ false = grind arith in
        rw (other, front_again (length name) name rest refl, is_name-from name fits) refl
    by_size name rest fits false is =
        let long : 255 ≤ length name = ltb-false (length name) 255 is in
        let small : length name ≤ 256 = name_size name fits.utf8 fits.spelling in
        let seen : ltb 254 (length name) ≡ true = lt-ltb 254 (length name) (omega arith) in
        let whole : u32_at (text_bytes name ++ rest) ≡ Some (length name, name ++ rest) = ap u32_at (append_assoc (u32_bytes (length name)) name rest) ∙ u32_again.again (length name) (name ++ rest) (omega arith) in
        rw (whole, seen, front_again (length name) name rest refl, is_name-from name fits) refl

-- ---- IDs

letter_back : (kind : Kind) → letter_at (letter_place kind) ≡ Some kind
letter_back letter.Text = refl
letter_back letter.Event = refl
letter_back letter.Relation = refl
letter_back letter.Attribute = refl
letter_back letter.Legacy = refl
letter_back letter.Normal = refl
letter_back letter.Note = refl

-- one letter of the seven, or one of the others
letter_or : (b : Bool) (first : Kind) (others : Option Kind) (place : ℕ) (kind : Kind) → (b ≡ true → letter_place first ≡ place) → (others ≡ Some kind → letter_place kind ≡ place) → cond b (Some first) others ≡ Some kind → letter_place kind ≡ place
letter_or true first others place kind here there e = subst (λ (k : Kind). letter_place k ≡ place) (same_Some first kind e) (here refl)
letter_or false first others place kind here there e = there e

letter_is : (place : ℕ) (kind : Kind) → letter_at place ≡ Some kind → letter_place kind ≡ place
letter_is place kind e =
    letter_or (eqb place 0) letter.Text _ place kind (λ h. sym (eqb-true place 0 h)) (
    letter_or (eqb place 1) letter.Event _ place kind (λ h. sym (eqb-true place 1 h)) (
    letter_or (eqb place 2) letter.Relation _ place kind (λ h. sym (eqb-true place 2 h)) (
    letter_or (eqb place 3) letter.Attribute _ place kind (λ h. sym (eqb-true place 3 h)) (
    letter_or (eqb place 4) letter.Legacy _ place kind (λ h. sym (eqb-true place 4 h)) (
    letter_or (eqb place 5) letter.Normal _ place kind (λ h. sym (eqb-true place 5 h)) (
    letter_or (eqb place 6) letter.Note None place kind (λ h. sym (eqb-true place 6 h)) (λ none. absurd (none-some kind none)))))))) e

guard_some : {A : Type 0} (b : Bool) (x y : A) → cond b None (Some x) ≡ Some y → (b ≡ false) × (x ≡ y)
guard_some true x y e = absurd cc
guard_some false x y e = (refl, cc)

id_spelt : (place number : ℕ) (id : AnnId) → id_of (place, number) ≡ Some id → id_bytes id ≡ place ∷ u32_bytes number
id_spelt place number id e =
    let k = and_then_some (λ (kind : Kind). cond (ltb 999999999 number) None (Some (id_at kind number))) (letter_at place) id e in
    let g = guard_some (ltb 999999999 number) (id_at k.0 number) id k.2 in
    let small : number ≤ 999999999 = ltb-false 999999999 number g.0 in
    let same : min number 999999999 ≡ number = omega arith in
    subst (λ (i : AnnId). id_bytes i ≡ place ∷ u32_bytes number) g.1 (rw (letter_is place k.0 k.1, same) refl)

id_again_of : (id : AnnId) → id_of (letter_place id.kind, id.number) ≡ Some id
id_again_of id =
    let few : id.number ≤ 999999999 = id.within in
    rw (le-ltb 999999999 id.number few, letter_back id.kind) (ap Some (id_at-id id))

place_small : (kind : Kind) → letter_place kind < 256
place_small letter.Text = omega arith
place_small letter.Event = omega arith
place_small letter.Relation = omega arith
place_small letter.Attribute = omega arith
place_small letter.Legacy = omega arith
place_small letter.Normal = omega arith
place_small letter.Note = omega arith

pub id_takes : Taking id_bytes Always ann_id_at
unfolding ann_id_at
id_takes = record {
  takes = λ bytes id rest fits e.
      let x = and_then_some (λ (x : (ℕ × ℕ) × List ℕ). option_map (λ (value : AnnId). (value, x.1)) (id_of x.0)) ((byte_at & u32_at) bytes) (id, rest) e in
      let y = map_some (λ (value : AnnId). (value, x.0.1)) (id_of x.0.0) (id, rest) x.2 in
      let t = (both_take byte_takes u32_takes).takes bytes x.0.0 x.0.1 fits x.1 in
      let spelt : Takes bytes (id_bytes y.0) x.0.1 = subst (λ (l : List ℕ). Takes bytes l x.0.1) (sym (id_spelt x.0.0.0 x.0.0.1 y.0 y.1)) t.0 in
      (subst (λ (z : AnnId × List ℕ). Takes bytes (id_bytes z.0) z.1) y.2 spelt, tt);
}

pub id_again : Again id_bytes Always ann_id_at
unfolding ann_id_at
id_again = record {
  again = λ id rest fits.
      let few : id.number ≤ 999999999 = id.within in
      let read : (byte_at & u32_at) (id_bytes id ++ rest) ≡ Some ((letter_place id.kind, id.number), rest) = (both_again byte_again u32_again).again (letter_place id.kind, id.number) rest (place_small id.kind, omega arith) in
      rw (read, id_again_of id) refl;
}

-- ---- fragments and arguments

abbrev IsU32 : ℕ → Type 0
IsU32 n = n < 2 ^ 32

pub frag_takes : Taking frag_bytes IsFrag frag_at
unfolding frag_at
frag_takes = record {
  takes = λ bytes frag rest fits e.
      let x = map_some (λ (x : (ℕ × ℕ) × List ℕ). (frag_of x.0, x.1)) ((u32_at & u32_at) bytes) (frag, rest) e in
      let t = (both_take u32_takes u32_takes).takes bytes x.0.0 x.0.1 fits x.1 in
      let is : IsFrag (frag_of x.0.0) = record { start = t.1.0; end = t.1.1 } in
      subst (λ (y : Frag × List ℕ). Takes bytes (frag_bytes y.0) y.1 × IsFrag y.0) x.2 (t.0, is);
}

pub frag_again : Again frag_bytes IsFrag frag_at
unfolding frag_at
frag_again = record {
  again = λ frag rest fits.
      ap (λ (o : Option ((ℕ × ℕ) × List ℕ)). option_map (λ (x : (ℕ × ℕ) × List ℕ). (frag_of x.0, x.1)) o)
      ((both_again u32_again u32_again).again (frag.start, frag.end) rest (fits.start, fits.end));
}

abbrev pub HasRoleName : NamedArg → Type 0
HasRoleName arg = IsName arg.role

pub arg_takes : Taking arg_bytes HasRoleName arg_at
unfolding arg_at
arg_takes = record {
  takes = λ bytes arg rest fits e.
      let x = map_some (λ (x : (List ℕ × AnnId) × List ℕ). (arg_of x.0, x.1)) ((name_at & ann_id_at) bytes) (arg, rest) e in
      let t = (both_take name_takes id_takes).takes bytes x.0.0 x.0.1 fits x.1 in
      subst (λ (y : NamedArg × List ℕ). Takes bytes (arg_bytes y.0) y.1 × HasRoleName y.0) x.2 (t.0, t.1.0);
}

pub arg_again : Again arg_bytes HasRoleName arg_at
unfolding arg_at
arg_again = record {
  again = λ arg rest fits.
      ap (λ (o : Option ((List ℕ × AnnId) × List ℕ)). option_map (λ (x : (List ℕ × AnnId) × List ℕ). (arg_of x.0, x.1)) o)
      ((both_again name_again id_again).again (arg.role, arg.target) rest (fits, tt));
}

-- ---- lists

-- so many values
pub record TakesList {A : Type 0} (put : A → List ℕ) (Fits : A → Type 0) (n : ℕ) (bytes : List ℕ) (values : List A) (rest : List ℕ) : Type 0 where
  pub taken : Takes bytes (flat_map put values) rest
  pub count : length values ≡ n
  pub fits : AllByRecursion Fits values

some_is : {X : Type 0} (x y : X) → (let s : Option X = Some x in s) ≡ Some y → x ≡ y
some_is x y e = cc

pub list_take : {A : Type 0} {put : A → List ℕ} {Fits : A → Type 0} {each : List ℕ → Option (A × List ℕ)} → Taking put Fits each
    → (n : ℕ) (bytes : List ℕ) (values : List A) (rest : List ℕ) → IsBytes bytes → list_on each n bytes ≡ Some (values, rest) → TakesList put Fits n bytes values rest
unfolding list_on
list_take {A = A} {put = put} {Fits = Fits} {each = each} taking zero bytes values rest fits e =
    subst (λ (y : List A × List ℕ). TakesList put Fits 0 bytes y.0 y.1) (some_is ([], bytes) (values, rest) e) (record { taken = record { parts = refl; rest_fits = fits }; count = refl; fits = tt })
list_take {A = A} {put = put} {Fits = Fits} {each = each} taking (suc n) bytes values rest fits e =
    let a = and_then_some (λ (x : A × List ℕ). option_map (λ (y : List A × List ℕ). (x.0 ∷ y.0, y.1)) (list_on each n x.1)) (each bytes) (values, rest) e in
    let b = map_some (λ (y : List A × List ℕ). (a.0.0 ∷ y.0, y.1)) (list_on each n a.0.1) (values, rest) a.2 in
    let first = taking.takes bytes a.0.0 a.0.1 fits a.1 in
    let second = list_take taking n a.0.1 b.0.0 b.0.1 first.0.rest_fits b.1 in
    let both = Takes-then bytes (put a.0.0) a.0.1 (flat_map put b.0.0) b.0.1 first.0 second.taken in
    let both' : Takes bytes (flat_map put (a.0.0 ∷ b.0.0)) b.0.1 = rw flat_map-cons both in
    subst (λ (y : List A × List ℕ). TakesList put Fits (suc n) bytes y.0 y.1) b.2 (record { taken = both'; count = ap suc second.count; fits = (first.1, second.fits) })

pub list_read : {A : Type 0} {put : A → List ℕ} {Fits : A → Type 0} {each : List ℕ → Option (A × List ℕ)} → Again put Fits each
    → (values : List A) (rest : List ℕ) → AllByRecursion Fits values → list_on each (length values) (flat_map put values ++ rest) ≡ Some (values, rest)
unfolding list_on
list_read again [] rest fits = refl
list_read {put = put} {each = each} again (v ∷ vs) rest fits =
    let regrouped : flat_map put (v ∷ vs) ++ rest ≡ put v ++ (flat_map put vs ++ rest) = ap (λ (x : List ℕ). x ++ rest) (flat_map-cons put v vs) ∙ append_assoc (put v) (flat_map put vs) rest in
    ap (list_on each (suc (length vs))) regrouped ∙ rw (again.again v (flat_map put vs ++ rest) fits.0, list_read again vs rest fits.1) refl

abbrev pub AreAll : {A : Type 0} → (A → Type 0) → List A → Type 0
AreAll Fits values = (length values < 2 ^ 32) × AllByRecursion Fits values

pub list_takes : {A : Type 0} {put : A → List ℕ} {Fits : A → Type 0} {each : List ℕ → Option (A × List ℕ)} → Taking put Fits each → Taking (list_bytes put) (AreAll Fits) (list_at each)
unfolding list_at
list_takes {A = A} {put = put} {Fits = Fits} {each = each} taking = record {
  takes = λ bytes values rest fits e.
      let n = and_then_some (λ (n : ℕ × List ℕ). list_on each n.0 n.1) (u32_at bytes) (values, rest) e in
      let t = u32_takes.takes bytes n.0.0 n.0.1 fits n.1 in
      let p = list_take taking n.0.0 n.0.1 values rest t.0.rest_fits n.2 in
      let whole : Takes bytes (u32_bytes n.0.0 ++ flat_map put values) rest = Takes-then bytes (u32_bytes n.0.0) n.0.1 (flat_map put values) rest t.0 p.taken in
      (subst (λ (k : ℕ). Takes bytes (u32_bytes k ++ flat_map put values) rest) (sym p.count) whole, (omega (arith, t.1, p.count), p.fits));
}

pub list_again : {A : Type 0} {put : A → List ℕ} {Fits : A → Type 0} {each : List ℕ → Option (A × List ℕ)} → Again put Fits each → Again (list_bytes put) (AreAll Fits) (list_at each)
unfolding list_at
list_again {put = put} {each = each} again = record {
  again = λ values rest fits.
      ap (list_at each) (append_assoc (u32_bytes (length values)) (flat_map put values) rest)
      ∙ rw (u32_again.again (length values) (flat_map put values ++ rest) fits.0, list_read again values rest fits.1) refl;
}

-- ---- values that may be absent

abbrev pub IsValue : Option (List ℕ) → Type 0
IsValue value = IfSome value IsName

pub value_takes : Taking value_bytes IsValue value_at
unfolding value_at
value_takes = record { takes = takes_value }
  where
    by_flag : (b : Bool) (bytes : List ℕ) (value : Option (List ℕ)) (rest : List ℕ) → IsBytes bytes → cond b (made Some name_at bytes) (Some (None, bytes)) ≡ Some (value, rest) → Takes (flag_byte b ++ bytes) (value_bytes value) rest × IsValue value
    by_flag true bytes value rest fits e =
        let x = map_some (λ (x : List ℕ × List ℕ). (let s : Option (List ℕ) = Some x.0 in s, x.1)) (name_at bytes) (value, rest) e in
        let t = name_takes.takes bytes x.0.0 x.0.1 fits x.1 in
        let one_more : Takes (1 ∷ bytes) (1 ∷ name_bytes x.0.0) x.0.1 = record { parts = ap (λ (l : List ℕ). 1 ∷ l) t.0.parts; rest_fits = t.0.rest_fits } in
        subst (λ (y : Option (List ℕ) × List ℕ). Takes (1 ∷ bytes) (value_bytes y.0) y.1 × IsValue y.0) x.2 (one_more, t.1)
    by_flag false bytes value rest fits e =
        subst (λ (y : Option (List ℕ) × List ℕ). Takes (0 ∷ bytes) (value_bytes y.0) y.1 × IsValue y.0) (some_is (None, bytes) (value, rest) e) (record { parts = refl; rest_fits = fits }, tt)

    takes_value : (bytes : List ℕ) (value : Option (List ℕ)) (rest : List ℕ) → IsBytes bytes → value_at bytes ≡ Some (value, rest) → Takes bytes (value_bytes value) rest × IsValue value
    takes_value bytes value rest fits e =
        let g = and_then_some (λ (given : Bool × List ℕ). cond given.0 (made Some name_at given.1) (Some (None, given.1))) (flag_at bytes) (value, rest) e in
        let t = flag_takes.takes bytes g.0.0 g.0.1 fits g.1 in
        let b = by_flag g.0.0 g.0.1 value rest t.0.rest_fits g.2 in
        (record { parts = t.0.parts ∙ b.0.parts; rest_fits = b.0.rest_fits }, b.1)

pub value_again : Again value_bytes IsValue value_at
unfolding value_at
value_again = record { again = again_value }
  where
    again_value : (value : Option (List ℕ)) (rest : List ℕ) → IsValue value → value_at (value_bytes value ++ rest) ≡ Some (value, rest)
    again_value None rest fits = rw (flag_again.again false rest tt) refl
    again_value (Some name) rest fits = rw (flag_again.again true (name_bytes name ++ rest) tt, name_again.again name rest fits) refl
