-- What is read as an entry is its bytes, and the bytes of an entry are read as it.
use Rattle.std.proofs.Common.{◌≡◌, ℕ, ◌≤◌, ◌^◌, ◌<◌, Bool, true, false, cond, eqb, List, [], ◌∷◌, ◌++◌, length, Option, Some, None, refl, sym, ap, subst, ◌∙◌, arith}
use Rattle.std.specs.Prelude.{Result, Ok, Err, IfOk, IfSome, IfNone, option_map, option_and_then}
use Rattle.std.proofs.lemmas.Bool.{eqb-true}
use Rattle.std.proofs.lemmas.List.{append-nil, nil_from_length}
use Rattle.std.proofs.lemmas.Option.{some_pair_parts, same_Some, none-some}
use Rattle.mark_base.specs.declared.failed.Memory.{Memory}
use Rattle.entry_bytes.specs.declared.person.Person.{Person}
use Rattle.entry_bytes.specs.declared.entry.Entry.{Entry}
use Rattle.entry_bytes.specs.declared.entry.Entry.TheVariants as entry
use Rattle.entry_bytes.specs.Fields.{u32_bytes, u64_bytes, slug_bytes, text_bytes, people_bytes, IsText, IsSlug, ArePeople}
use Rattle.entry_bytes.specs.Entries.{entry_bytes, HasSizes, IsEntry}
use Rattle.entry_bytes.specs.Reading.{◌&◌, made, byte_at, rest_at}
use Rattle.entry_bytes.specs.EntryReading.{founding_at, on_document_at, on_layer_at, on_item_at, found_at, add_text_at, checkout_at, take_over_at, commit_at, park_at, finish_at, reopen_at, snap_at, decide_at, undecide_at, ignore_at, readmit_at, found_at_level_at, restored_at, document_at, row_at, layer_at, draft_at, snapshot_at, held_layer_at, decided_at, bare, piece_at, fields_at, alone, entry_of}
use Rattle.entry_bytes.proofs.Exact.{IsBytes, and_then_some, map_some, cond_some, Takes, Taking, Again, both_take, both_again}
use Rattle.entry_bytes.proofs.FieldLaws.{byte_takes, byte_again, below_takes, below_again, Always, flag_takes, flag_again, u32_takes, u32_again, u64_takes, u64_again, text_takes, text_again, slug_takes, slug_again, people_takes, people_again}

-- ---- fields that several kinds share

abbrev IsU32 : ℕ → Type 0
IsU32 n = n < 2 ^ 32

abbrev IsU64 : ℕ → Type 0
IsU64 n = n < 2 ^ 64

abbrev IsU8 : ℕ → Type 0
IsU8 n = n < 256

abbrev all : List ℕ → List ℕ
all bytes = bytes

rest_takes : Taking all Always rest_at
rest_takes = record {
  takes = λ bytes a rest fits e.
      let same = some_pair_parts bytes a [] rest e in
      (subst (λ (y : List ℕ × List ℕ). Takes bytes y.0 y.1) (λ i. (same.0 i, same.1 i)) (record { parts = sym (append-nil bytes); rest_fits = λ i. omega arith }), tt);
}

founding_takes : Taking (λ (x : List ℕ × List Person). text_bytes x.0 ++ people_bytes x.1) (λ (x : List ℕ × List Person). IsText x.0 × ArePeople x.1) founding_at
unfolding founding_at
founding_takes = record { takes = (both_take text_takes people_takes).takes }

founding_again : Again (λ (x : List ℕ × List Person). text_bytes x.0 ++ people_bytes x.1) (λ (x : List ℕ × List Person). IsText x.0 × ArePeople x.1) founding_at
unfolding founding_at
founding_again = record { again = (both_again text_again people_again).again }

on_document_takes : Taking (λ (x : List ℕ × ℕ). slug_bytes x.0 ++ u32_bytes x.1) (λ (x : List ℕ × ℕ). IsSlug x.0 × IsU32 x.1) on_document_at
unfolding on_document_at
on_document_takes = record { takes = (both_take slug_takes u32_takes).takes }

on_document_again : Again (λ (x : List ℕ × ℕ). slug_bytes x.0 ++ u32_bytes x.1) (λ (x : List ℕ × ℕ). IsSlug x.0 × IsU32 x.1) on_document_at
unfolding on_document_at
on_document_again = record { again = (both_again slug_again u32_again).again }

on_layer_takes : Taking (λ (x : (List ℕ × ℕ) × List ℕ). slug_bytes x.0.0 ++ u32_bytes x.0.1 ++ slug_bytes x.1) (λ (x : (List ℕ × ℕ) × List ℕ). (IsSlug x.0.0 × IsU32 x.0.1) × IsSlug x.1) on_layer_at
unfolding on_layer_at
on_layer_takes = record { takes = (both_take on_document_takes slug_takes).takes }

on_layer_again : Again (λ (x : (List ℕ × ℕ) × List ℕ). slug_bytes x.0.0 ++ u32_bytes x.0.1 ++ slug_bytes x.1) (λ (x : (List ℕ × ℕ) × List ℕ). (IsSlug x.0.0 × IsU32 x.0.1) × IsSlug x.1) on_layer_at
unfolding on_layer_at
on_layer_again = record { again = (both_again on_document_again slug_again).again }

abbrev Item : Type 0
Item = (((List ℕ × ℕ) × ℕ) × ℕ) × ℕ

abbrev item_bytes : Item → List ℕ
item_bytes x = slug_bytes x.0.0.0.0 ++ u64_bytes x.0.0.0.1 ++ x.0.0.1 ∷ [] ++ x.0.1 ∷ [] ++ u32_bytes x.1

abbrev IsItem : Item → Type 0
IsItem x = (((IsSlug x.0.0.0.0 × IsU64 x.0.0.0.1) × IsU8 x.0.0.1) × IsU8 x.0.1) × IsU32 x.1

on_item_takes : Taking item_bytes IsItem on_item_at
unfolding on_item_at
on_item_takes = record { takes = (both_take (both_take (both_take (both_take slug_takes u64_takes) byte_takes) byte_takes) u32_takes).takes }

on_item_again : Again item_bytes IsItem on_item_at
unfolding on_item_at
on_item_again = record { again = (both_again (both_again (both_again (both_again slug_again u64_again) byte_again) byte_again) u32_again).again }

-- ---- what is read is the bytes of an entry

-- what is read behind a tag
abbrev IsRight : ℕ → List ℕ → Option (Entry × List ℕ) → Type 0
IsRight tag bytes found = (e : Entry) (rest : List ℕ) → found ≡ Some (e, rest) → (tag ∷ bytes ≡ entry_bytes e ++ rest) × IsEntry e

right_made : {A : Type 0} {p : A → List ℕ} {F : A → Type 0} {f : List ℕ → Option (A × List ℕ)} (tag : ℕ) (of : A → Entry) → Taking p F f
    → ((a : A) → F a → IsEntry (of a)) → ((a : A) → entry_bytes (of a) ≡ tag ∷ p a) → (bytes : List ℕ) → IsBytes bytes → IsRight tag bytes (made of f bytes)
right_made {A = A} {p = p} {F = F} {f = f} tag of taking is spelt bytes fits e rest read =
    let x = map_some (λ (x : A × List ℕ). (of x.0, x.1)) (f bytes) (e, rest) read in
    let t = taking.takes bytes x.0.0 x.0.1 fits x.1 in
    let parts : tag ∷ bytes ≡ entry_bytes (of x.0.0) ++ x.0.1 = ap (λ (l : List ℕ). tag ∷ l) t.0.parts ∙ ap (λ (l : List ℕ). l ++ x.0.1) (sym (spelt x.0.0)) in
    subst (λ (y : Entry × List ℕ). (tag ∷ bytes ≡ entry_bytes y.0 ++ y.1) × IsEntry y.0) x.2 (parts, is x.0.0 t.1)

right_if : (tag k : ℕ) (bytes : List ℕ) (x y : Option (Entry × List ℕ)) → IsRight k bytes x → IsRight tag bytes y → IsRight tag bytes (cond (eqb tag k) x y)
right_if tag k bytes x y there other = by_tag (eqb tag k) refl
  where
    by_tag : (b : Bool) → eqb tag k ≡ b → IsRight tag bytes (cond b x y)
    by_tag true same = subst (λ (t : ℕ). IsRight t bytes x) (sym (eqb-true tag k same)) there
    by_tag false same = other

bare_right : (tag : ℕ) (e : Entry) (bytes : List ℕ) → IsEntry e → entry_bytes e ≡ tag ∷ [] → IsBytes bytes → IsRight tag bytes (bare e bytes)
bare_right tag e bytes is spelt fits d rest read =
    let same = some_pair_parts e d bytes rest read in
    subst (λ (y : Entry × List ℕ). (tag ∷ bytes ≡ entry_bytes y.0 ++ y.1) × IsEntry y.0) (λ i. (same.0 i, same.1 i)) (ap (λ (l : List ℕ). l ++ bytes) (sym spelt), is)

none_right : (tag : ℕ) (bytes : List ℕ) → IsRight tag bytes None
none_right tag bytes e rest read = absurd cc

found_right : (bytes : List ℕ) → IsBytes bytes → IsRight 1 bytes (found_at bytes)
unfolding found_at entry_bytes
found_right bytes fits = right_made 1 (λ (x : List ℕ × List Person). entry.Found x.0 x.1) founding_takes (λ a h. h) (λ a. refl) bytes fits

add_text_right : (bytes : List ℕ) → IsBytes bytes → IsRight 2 bytes (add_text_at bytes)
unfolding add_text_at entry_bytes
add_text_right bytes fits = right_made 2 (λ (x : (List ℕ × List ℕ) × List ℕ). entry.AddText x.0.0 x.0.1 x.1) (both_take (both_take slug_takes slug_takes) text_takes) (λ a h. (h.0.0, h.0.1, h.1)) (λ a. refl) bytes fits

checkout_right : (bytes : List ℕ) → IsBytes bytes → IsRight 3 bytes (checkout_at bytes)
unfolding checkout_at entry_bytes
checkout_right bytes fits = right_made 3 (λ (x : List ℕ × ℕ). entry.Checkout x.0 x.1) on_document_takes (λ a h. h) (λ a. refl) bytes fits

take_over_right : (bytes : List ℕ) → IsBytes bytes → IsRight 4 bytes (take_over_at bytes)
unfolding take_over_at entry_bytes
take_over_right bytes fits = right_made 4 (λ (x : List ℕ × ℕ). entry.TakeOver x.0 x.1) on_document_takes (λ a h. h) (λ a. refl) bytes fits

commit_right : (bytes : List ℕ) → IsBytes bytes → IsRight 5 bytes (commit_at bytes)
unfolding commit_at entry_bytes
commit_right bytes fits = right_made 5 (λ (x : ((List ℕ × ℕ) × ℕ) × List ℕ). entry.Commit x.0.0.0 x.0.0.1 x.0.1 x.1) (both_take (both_take on_document_takes u64_takes) text_takes) (λ a h. (h.0.0.0, h.0.0.1, h.0.1, h.1)) (λ a. refl) bytes fits

park_right : (bytes : List ℕ) → IsBytes bytes → IsRight 6 bytes (park_at bytes)
unfolding park_at entry_bytes
park_right bytes fits = right_made 6 (λ (x : ((List ℕ × ℕ) × ℕ) × List ℕ). entry.Park x.0.0.0 x.0.0.1 x.0.1 x.1) (both_take (both_take on_document_takes u64_takes) rest_takes) (λ a h. (h.0.0.0, h.0.0.1, h.0.1)) (λ a. refl) bytes fits

finish_right : (bytes : List ℕ) → IsBytes bytes → IsRight 7 bytes (finish_at bytes)
unfolding finish_at entry_bytes
finish_right bytes fits = right_made 7 (λ (x : List ℕ × ℕ). entry.Finish x.0 x.1) on_document_takes (λ a h. h) (λ a. refl) bytes fits

reopen_right : (bytes : List ℕ) → IsBytes bytes → IsRight 8 bytes (reopen_at bytes)
unfolding reopen_at entry_bytes
reopen_right bytes fits = right_made 8 (λ (x : (List ℕ × ℕ) × List ℕ). entry.Reopen x.0.0 x.0.1 x.1) on_layer_takes (λ a h. (h.0.0, h.0.1, h.1)) (λ a. refl) bytes fits

snap_right : (bytes : List ℕ) → IsBytes bytes → IsRight 9 bytes (snap_at bytes)
unfolding snap_at entry_bytes
snap_right bytes fits = right_made 9 (λ (x : List ℕ × ℕ). entry.Snap x.0 x.1) on_document_takes (λ a h. h) (λ a. refl) bytes fits

decide_right : (bytes : List ℕ) → IsBytes bytes → IsRight 10 bytes (decide_at bytes)
unfolding decide_at entry_bytes
decide_right bytes fits = right_made 10 (λ (x : Item × Bool). entry.Decide x.0.0.0.0.0 x.0.0.0.0.1 x.0.0.0.1 x.0.0.1 x.0.1 x.1) (both_take on_item_takes flag_takes) (λ a h. (h.0.0.0.0.0, h.0.0.0.0.1, h.0.0.0.1, h.0.0.1, h.0.1)) (λ a. refl) bytes fits

undecide_right : (bytes : List ℕ) → IsBytes bytes → IsRight 11 bytes (undecide_at bytes)
unfolding undecide_at entry_bytes
undecide_right bytes fits = right_made 11 (λ (x : Item). entry.Undecide x.0.0.0.0 x.0.0.0.1 x.0.0.1 x.0.1 x.1) on_item_takes (λ a h. (h.0.0.0.0, h.0.0.0.1, h.0.0.1, h.0.1, h.1)) (λ a. refl) bytes fits

ignore_right : (bytes : List ℕ) → IsBytes bytes → IsRight 13 bytes (ignore_at bytes)
unfolding ignore_at entry_bytes
ignore_right bytes fits = right_made 13 (λ (x : (List ℕ × ℕ) × List ℕ). entry.Ignore x.0.0 x.0.1 x.1) on_layer_takes (λ a h. (h.0.0, h.0.1, h.1)) (λ a. refl) bytes fits

readmit_right : (bytes : List ℕ) → IsBytes bytes → IsRight 14 bytes (readmit_at bytes)
unfolding readmit_at entry_bytes
readmit_right bytes fits = right_made 14 (λ (x : (List ℕ × ℕ) × List ℕ). entry.Readmit x.0.0 x.0.1 x.1) on_layer_takes (λ a h. (h.0.0, h.0.1, h.1)) (λ a. refl) bytes fits

found_at_level_right : (bytes : List ℕ) → IsBytes bytes → IsRight 15 bytes (found_at_level_at bytes)
unfolding found_at_level_at entry_bytes
found_at_level_right bytes fits = right_made 15 (λ (x : (List ℕ × List Person) × ℕ). entry.FoundAt x.0.0 x.0.1 x.1) (both_take founding_takes (below_takes 255)) (λ a h. (h.0.0, h.0.1, h.1)) (λ a. refl) bytes fits

restored_right : (bytes : List ℕ) → IsBytes bytes → IsRight 16 bytes (restored_at bytes)
unfolding restored_at entry_bytes
restored_right bytes fits = right_made 16 (λ (x : ((((ℕ × ℕ) × ℕ) × ℕ) × List ℕ) × List Person). entry.Restored x.0.0.0.0.0 x.0.0.0.0.1 x.0.0.0.1 x.0.0.1 x.0.1 x.1) (both_take (both_take (both_take (both_take (both_take u64_takes byte_takes) u32_takes) u64_takes) text_takes) people_takes) (λ a h. (h.0.0.0.0.0, h.0.0.0.0.1, h.0.0.0.1, h.0.0.1, h.0.1, h.1)) (λ a. refl) bytes fits

document_right : (bytes : List ℕ) → IsBytes bytes → IsRight 17 bytes (document_at bytes)
unfolding document_at entry_bytes
document_right bytes fits = right_made 17 (λ (x : List ℕ × List ℕ). entry.Document x.0 x.1) (both_take slug_takes text_takes) (λ a h. h) (λ a. refl) bytes fits

row_right : (bytes : List ℕ) → IsBytes bytes → IsRight 18 bytes (row_at bytes)
unfolding row_at entry_bytes
row_right bytes fits = right_made 18 (λ (x : ((ℕ × List ℕ) × ℕ) × ℕ). entry.Row x.0.0.0 x.0.0.1 x.0.1 x.1) (both_take (both_take (both_take u32_takes slug_takes) u64_takes) (below_takes 4)) (λ a h. (h.0.0.0, h.0.0.1, h.0.1, h.1)) (λ a. refl) bytes fits

layer_right : (bytes : List ℕ) → IsBytes bytes → IsRight 19 bytes (layer_at bytes)
unfolding layer_at entry_bytes
layer_right bytes fits = right_made 19 (λ (x : List ℕ). entry.Layer x) text_takes (λ a h. h) (λ a. refl) bytes fits

draft_right : (bytes : List ℕ) → IsBytes bytes → IsRight 20 bytes (draft_at bytes)
unfolding draft_at entry_bytes
draft_right bytes fits = right_made 20 (λ (x : List ℕ). entry.Draft x) rest_takes (λ a h. tt) (λ a. refl) bytes fits

snapshot_right : (bytes : List ℕ) → IsBytes bytes → IsRight 21 bytes (snapshot_at bytes)
unfolding snapshot_at entry_bytes
snapshot_right bytes fits = right_made 21 (λ (x : ℕ × ℕ). entry.Snapshot x.0 x.1) (both_take u32_takes byte_takes) (λ a h. h) (λ a. refl) bytes fits

held_layer_right : (bytes : List ℕ) → IsBytes bytes → IsRight 22 bytes (held_layer_at bytes)
unfolding held_layer_at entry_bytes
held_layer_right bytes fits = right_made 22 (λ (x : List ℕ × List ℕ). entry.HeldLayer x.0 x.1) (both_take slug_takes text_takes) (λ a h. h) (λ a. refl) bytes fits

decided_right : (bytes : List ℕ) → IsBytes bytes → IsRight 23 bytes (decided_at bytes)
unfolding decided_at entry_bytes
decided_right bytes fits = right_made 23 (λ (x : List ℕ). entry.Decided x) rest_takes (λ a h. tt) (λ a. refl) bytes fits

piece_right : (tag : ℕ) (bytes : List ℕ) → IsBytes bytes → IsRight tag bytes (piece_at tag bytes)
unfolding piece_at entry_bytes
piece_right tag bytes fits =
    right_if tag 16 bytes (restored_at bytes) _ (restored_right bytes fits) (
    right_if tag 17 bytes (document_at bytes) _ (document_right bytes fits) (
    right_if tag 18 bytes (row_at bytes) _ (row_right bytes fits) (
    right_if tag 19 bytes (layer_at bytes) _ (layer_right bytes fits) (
    right_if tag 20 bytes (draft_at bytes) _ (draft_right bytes fits) (
    right_if tag 21 bytes (snapshot_at bytes) _ (snapshot_right bytes fits) (
    right_if tag 22 bytes (held_layer_at bytes) _ (held_layer_right bytes fits) (
    right_if tag 23 bytes (decided_at bytes) _ (decided_right bytes fits) (
    right_if tag 24 bytes (bare entry.End bytes) _ (bare_right 24 entry.End bytes tt refl fits) (
    none_right tag bytes)))))))))

fields_right : (tag : ℕ) (bytes : List ℕ) → IsBytes bytes → IsRight tag bytes (fields_at tag bytes)
unfolding fields_at entry_bytes
fields_right tag bytes fits =
    right_if tag 1 bytes (found_at bytes) _ (found_right bytes fits) (
    right_if tag 2 bytes (add_text_at bytes) _ (add_text_right bytes fits) (
    right_if tag 3 bytes (checkout_at bytes) _ (checkout_right bytes fits) (
    right_if tag 4 bytes (take_over_at bytes) _ (take_over_right bytes fits) (
    right_if tag 5 bytes (commit_at bytes) _ (commit_right bytes fits) (
    right_if tag 6 bytes (park_at bytes) _ (park_right bytes fits) (
    right_if tag 7 bytes (finish_at bytes) _ (finish_right bytes fits) (
    right_if tag 8 bytes (reopen_at bytes) _ (reopen_right bytes fits) (
    right_if tag 9 bytes (snap_at bytes) _ (snap_right bytes fits) (
    right_if tag 10 bytes (decide_at bytes) _ (decide_right bytes fits) (
    right_if tag 11 bytes (undecide_at bytes) _ (undecide_right bytes fits) (
    right_if tag 12 bytes (bare entry.FreeAll bytes) _ (bare_right 12 entry.FreeAll bytes tt refl fits) (
    right_if tag 13 bytes (ignore_at bytes) _ (ignore_right bytes fits) (
    right_if tag 14 bytes (readmit_at bytes) _ (readmit_right bytes fits) (
    right_if tag 15 bytes (found_at_level_at bytes) _ (found_at_level_right bytes fits) (
    piece_right tag bytes fits)))))))))))))))

pub is_written : (bytes : List ℕ) (e : Entry) → IsBytes bytes → entry_of bytes ≡ Some e → IsEntry e × (entry_bytes e ≡ bytes)
unfolding entry_of
is_written bytes e fits read =
    let tag = and_then_some (λ (x : ℕ × List ℕ). option_and_then alone (fields_at x.0 x.1)) (byte_at bytes) e read in
    let x = and_then_some alone (fields_at tag.0.0 tag.0.1) e tag.2 in
    let end = cond_some (eqb (length x.0.1) 0) x.0.0 e x.2 in
    let first = byte_takes.takes bytes tag.0.0 tag.0.1 fits tag.1 in
    let r = fields_right tag.0.0 tag.0.1 first.0.rest_fits x.0.0 x.0.1 x.1 in
    let nothing : x.0.1 ≡ [] = nil_from_length x.0.1 (eqb-true _ _ end.0) in
    let whole : entry_bytes x.0.0 ≡ bytes = sym (first.0.parts ∙ r.0 ∙ ap (λ (l : List ℕ). entry_bytes x.0.0 ++ l) nothing ∙ append-nil (entry_bytes x.0.0)) in
    subst (λ (d : Entry). IsEntry d × (entry_bytes d ≡ bytes)) end.1 (r.1, whole)

-- ---- the bytes of an entry are read as it

last : {A : Type 0} {p : A → List ℕ} {F : A → Type 0} {f : List ℕ → Option (A × List ℕ)} → Again p F f → (a : A) → F a → f (p a) ≡ Some (a, [])
last {p = p} {f = f} ag a h = ap f (sym (append-nil (p a))) ∙ ag.again a [] h

alone_again : {A : Type 0} (of : A → Entry) (a : A) (o : Option (A × List ℕ)) → o ≡ Some (a, []) → option_and_then alone (option_map (λ (x : A × List ℕ). (of x.0, x.1)) o) ≡ Some (of a)
alone_again of a o same = rw same refl

-- two fields of which the second goes to the end
to_end : {A : Type 0} {p : A → List ℕ} {F : A → Type 0} {f : List ℕ → Option (A × List ℕ)} → Again p F f → (a : A) (rest : List ℕ) → F a → (f & rest_at) (p a ++ rest) ≡ Some ((a, rest), [])
to_end ag a rest h = rw (ag.again a rest h) refl

pub is_read : (e : Entry) → IsEntry e → entry_of (entry_bytes e) ≡ Some e
unfolding entry_of entry_bytes fields_at piece_at found_at add_text_at checkout_at take_over_at commit_at park_at finish_at reopen_at snap_at decide_at undecide_at ignore_at readmit_at found_at_level_at restored_at document_at row_at layer_at draft_at snapshot_at held_layer_at decided_at
is_read (entry.Found conf people) h = alone_again (λ (x : List ℕ × List Person). entry.Found x.0 x.1) (conf, people) _ (last founding_again (conf, people) h)
is_read (entry.AddText by name text) h = alone_again (λ (x : (List ℕ × List ℕ) × List ℕ). entry.AddText x.0.0 x.0.1 x.1) ((by, name), text) _ (last (both_again (both_again slug_again slug_again) text_again) ((by, name), text) ((h.0, h.1), h.2))
is_read (entry.Checkout by doc) h = alone_again (λ (x : List ℕ × ℕ). entry.Checkout x.0 x.1) (by, doc) _ (last on_document_again (by, doc) h)
is_read (entry.TakeOver by doc) h = alone_again (λ (x : List ℕ × ℕ). entry.TakeOver x.0 x.1) (by, doc) _ (last on_document_again (by, doc) h)
is_read (entry.Commit by doc hold lines) h = alone_again (λ (x : ((List ℕ × ℕ) × ℕ) × List ℕ). entry.Commit x.0.0.0 x.0.0.1 x.0.1 x.1) (((by, doc), hold), lines) _ (last (both_again (both_again on_document_again u64_again) text_again) (((by, doc), hold), lines) (((h.0, h.1), h.2), h.3))
is_read (entry.Park by doc hold commands) h = alone_again (λ (x : ((List ℕ × ℕ) × ℕ) × List ℕ). entry.Park x.0.0.0 x.0.0.1 x.0.1 x.1) (((by, doc), hold), commands) _ (to_end (both_again on_document_again u64_again) ((by, doc), hold) commands ((h.0, h.1), h.2))
is_read (entry.Finish by doc) h = alone_again (λ (x : List ℕ × ℕ). entry.Finish x.0 x.1) (by, doc) _ (last on_document_again (by, doc) h)
is_read (entry.Reopen by doc who) h = alone_again (λ (x : (List ℕ × ℕ) × List ℕ). entry.Reopen x.0.0 x.0.1 x.1) ((by, doc), who) _ (last on_layer_again ((by, doc), who) ((h.0, h.1), h.2))
is_read (entry.Snap by doc) h = alone_again (λ (x : List ℕ × ℕ). entry.Snap x.0 x.1) (by, doc) _ (last on_document_again (by, doc) h)
is_read (entry.Decide by snapshot holder kind number accept) h = alone_again (λ (x : Item × Bool). entry.Decide x.0.0.0.0.0 x.0.0.0.0.1 x.0.0.0.1 x.0.0.1 x.0.1 x.1) (((((by, snapshot), holder), kind), number), accept) _ (last (both_again on_item_again flag_again) (((((by, snapshot), holder), kind), number), accept) (((((h.0, h.1), h.2), h.3), h.4), tt))
is_read (entry.Undecide by snapshot holder kind number) h = alone_again (λ (x : Item). entry.Undecide x.0.0.0.0 x.0.0.0.1 x.0.0.1 x.0.1 x.1) ((((by, snapshot), holder), kind), number) _ (last on_item_again ((((by, snapshot), holder), kind), number) ((((h.0, h.1), h.2), h.3), h.4))
is_read entry.FreeAll h = refl
is_read (entry.Ignore by doc who) h = alone_again (λ (x : (List ℕ × ℕ) × List ℕ). entry.Ignore x.0.0 x.0.1 x.1) ((by, doc), who) _ (last on_layer_again ((by, doc), who) ((h.0, h.1), h.2))
is_read (entry.Readmit by doc who) h = alone_again (λ (x : (List ℕ × ℕ) × List ℕ). entry.Readmit x.0.0 x.0.1 x.1) ((by, doc), who) _ (last on_layer_again ((by, doc), who) ((h.0, h.1), h.2))
is_read (entry.FoundAt conf people level) h = alone_again (λ (x : (List ℕ × List Person) × ℕ). entry.FoundAt x.0.0 x.0.1 x.1) ((conf, people), level) _ (last (both_again founding_again (below_again 255)) ((conf, people), level) ((h.0, h.1), h.2))
is_read (entry.Restored place level documents snapshots conf people) h = alone_again (λ (x : ((((ℕ × ℕ) × ℕ) × ℕ) × List ℕ) × List Person). entry.Restored x.0.0.0.0.0 x.0.0.0.0.1 x.0.0.0.1 x.0.0.1 x.0.1 x.1) (((((place, level), documents), snapshots), conf), people) _ (last (both_again (both_again (both_again (both_again (both_again u64_again byte_again) u32_again) u64_again) text_again) people_again) (((((place, level), documents), snapshots), conf), people) (((((h.0, h.1), h.2), h.3), h.4), h.5))
is_read (entry.Document name text) h = alone_again (λ (x : List ℕ × List ℕ). entry.Document x.0 x.1) (name, text) _ (last (both_again slug_again text_again) (name, text) h)
is_read (entry.Row doc who revision flags) h = alone_again (λ (x : ((ℕ × List ℕ) × ℕ) × ℕ). entry.Row x.0.0.0 x.0.0.1 x.0.1 x.1) (((doc, who), revision), flags) _ (last (both_again (both_again (both_again u32_again slug_again) u64_again) (below_again 4)) (((doc, who), revision), flags) (((h.0, h.1), h.2), h.3))
is_read (entry.Layer lines) h = alone_again (λ (x : List ℕ). entry.Layer x) lines _ (last text_again lines h)
is_read (entry.Draft commands) h = refl
is_read (entry.Snapshot doc layers) h = alone_again (λ (x : ℕ × ℕ). entry.Snapshot x.0 x.1) (doc, layers) _ (last (both_again u32_again byte_again) (doc, layers) h)
is_read (entry.HeldLayer who lines) h = alone_again (λ (x : List ℕ × List ℕ). entry.HeldLayer x.0 x.1) (who, lines) _ (last (both_again slug_again text_again) (who, lines) h)
is_read (entry.Decided pairs) h = refl
is_read entry.End h = refl

pub are_same : (d e : Entry) → IsEntry d → IsEntry e → entry_bytes d ≡ entry_bytes e → d ≡ e
are_same d e first second same = same_Some d e (sym (is_read d first) ∙ ap entry_of same ∙ is_read e second)

-- ---- sizes

pub some_bytes : (e : Entry) → 1 ≤ length (entry_bytes e)
unfolding entry_bytes
some_bytes (entry.Found conf people) = omega arith
some_bytes (entry.AddText by name text) = omega arith
some_bytes (entry.Checkout by doc) = omega arith
some_bytes (entry.TakeOver by doc) = omega arith
some_bytes (entry.Commit by doc hold lines) = omega arith
some_bytes (entry.Park by doc hold commands) = omega arith
some_bytes (entry.Finish by doc) = omega arith
some_bytes (entry.Reopen by doc who) = omega arith
some_bytes (entry.Snap by doc) = omega arith
some_bytes (entry.Decide by snapshot holder kind number accept) = omega arith
some_bytes (entry.Undecide by snapshot holder kind number) = omega arith
some_bytes entry.FreeAll = omega arith
some_bytes (entry.Ignore by doc who) = omega arith
some_bytes (entry.Readmit by doc who) = omega arith
some_bytes (entry.FoundAt conf people level) = omega arith
some_bytes (entry.Restored place level documents snapshots conf people) = omega arith
some_bytes (entry.Document name text) = omega arith
some_bytes (entry.Row doc who revision flags) = omega arith
some_bytes (entry.Layer lines) = omega arith
some_bytes (entry.Draft commands) = omega arith
some_bytes (entry.Snapshot doc layers) = omega arith
some_bytes (entry.HeldLayer who lines) = omega arith
some_bytes (entry.Decided pairs) = omega arith
some_bytes entry.End = omega arith

pub sizes_of : (e : Entry) → IsEntry e → HasSizes e
sizes_of (entry.Found conf people) h = (h.0.size, h.1.count)
sizes_of (entry.AddText by name text) h = h.2.size
sizes_of (entry.Checkout by doc) h = tt
sizes_of (entry.TakeOver by doc) h = tt
sizes_of (entry.Commit by doc hold lines) h = h.3.size
sizes_of (entry.Park by doc hold commands) h = tt
sizes_of (entry.Finish by doc) h = tt
sizes_of (entry.Reopen by doc who) h = tt
sizes_of (entry.Snap by doc) h = tt
sizes_of (entry.Decide by snapshot holder kind number accept) h = tt
sizes_of (entry.Undecide by snapshot holder kind number) h = tt
sizes_of entry.FreeAll h = tt
sizes_of (entry.Ignore by doc who) h = tt
sizes_of (entry.Readmit by doc who) h = tt
sizes_of (entry.FoundAt conf people level) h = (h.0.size, h.1.count)
sizes_of (entry.Restored place level documents snapshots conf people) h = (h.4.size, h.5.count)
sizes_of (entry.Document name text) h = h.1.size
sizes_of (entry.Row doc who revision flags) h = tt
sizes_of (entry.Layer lines) h = h.size
sizes_of (entry.Draft commands) h = tt
sizes_of (entry.Snapshot doc layers) h = tt
sizes_of (entry.HeldLayer who lines) h = h.1.size
sizes_of (entry.Decided pairs) h = tt
sizes_of entry.End h = tt

-- ---- what reading answers

pub right_found : (bytes : List ℕ) (found : Option Entry) → IsBytes bytes → found ≡ entry_of bytes → IfSome found (λ e. IsEntry e × (entry_bytes e ≡ bytes))
right_found bytes (Some e) fits same = is_written bytes e fits (sym same)
right_found bytes None fits same = tt

pub right_none : (bytes : List ℕ) (found : Option Entry) → found ≡ entry_of bytes → IfNone found ((e : Entry) → IsEntry e → entry_bytes e ≡ bytes → ⊥)
right_none bytes (Some e) same = tt
right_none bytes None same = λ e is spelt. none-some e (same ∙ ap entry_of (sym spelt) ∙ is_read e is)

pub read_found : (bytes : List ℕ) (r : Result (Option Entry) Memory) → IsBytes bytes → IfOk r (λ found. found ≡ entry_of bytes) → IfOk r (λ found. IfSome found (λ e. IsEntry e × (entry_bytes e ≡ bytes)))
read_found bytes (Ok found) fits same = right_found bytes found fits same
read_found bytes (Err e) fits same = tt

pub read_none : (bytes : List ℕ) (r : Result (Option Entry) Memory) → IfOk r (λ found. found ≡ entry_of bytes) → IfOk r (λ found. IfNone found ((e : Entry) → IsEntry e → entry_bytes e ≡ bytes → ⊥))
read_none bytes (Ok found) same = right_none bytes found same
read_none bytes (Err e) same = tt
