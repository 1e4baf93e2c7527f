-- Where the disks of the names that were taken came back and each other name stayed as it was, no name is out.
use Rattle.std.proofs.Common.{◌≡◌, ◌⊎◌, inl, inr, ℕ, Bool, true, false, List, Option, refl, sym, subst}
use Rattle.std.specs.Prelude.{IfSome, bytes_eq}
use Rattle.std.specs.Bool.{Decides}
use Rattle.std.proofs.lemmas.Slice.Eq.{bytes_eq-Decides}
use Rattle.named_disks.specs.NamedDisks.{IsIn, KeepsAll, KeepsNames, KeepsOthers, Stored, is_out, is_there}
use Rattle.named_disks.specs.NameLaws.{keeps_those}
use Rattle.command_words.specs.Asked.{BookCommand, Found, Add, Import, Export, ColumnsOut, Agree, Scores, Progress, Snapshots, Curated, IsChangedOn, file_in}

false_true : ◌≡◌ {A = Bool} false true → ⊥
false_true same = cc

pick : {P Q : Type 0} (b : Bool) → Decides b P → (P → Q) → ((P → ⊥) → Q) → Q
pick {P} {Q} true d holds fails = holds (d.0 refl)
pick {P} {Q} false d holds fails = fails (λ p. false_true (d.1 p))

-- no name is out behind a call that gives one disk back
pub free_after : (book name : List ℕ) (stored stored_now : Option Stored) (out out_now : Option (List (List ℕ))) → KeepsOthers book stored out stored_now out_now
    → IsIn out name → IsIn out_now book → IsIn out_now name
free_after book name stored stored_now out out_now kept before back =
    pick (bytes_eq name book) (bytes_eq-Decides name book) (λ same. subst (λ n. IsIn out_now n) (sym same) back)
    (λ other. subst (λ told. IfSome told (λ it. it ≡ false)) (sym (kept.same_out name other)) before)

-- where each name stays as it was, none is out
pub free_still : (name : List ℕ) (stored stored_now : Option Stored) (out out_now : Option (List (List ℕ))) → KeepsAll stored out stored_now out_now → IsIn out name → IsIn out_now name
free_still name stored stored_now out out_now kept before = subst (λ told. IfSome told (λ it. it ≡ false)) (sym (kept.same_out name tt)) before

-- a command that may change a file keeps the others and gives that one back
pub free_behind : (command : BookCommand) (name : List ℕ) (stored stored_now : Option Stored) (out out_now : Option (List (List ℕ)))
    → KeepsNames (λ other. IsChangedOn command other → ⊥) stored out stored_now out_now → IsIn out name → IsIn out_now (file_in command) → IsIn out_now name
free_behind (Found book conf roster level) name stored stored_now out out_now kept before back = free_after book name stored stored_now out out_now kept before back
free_behind (Add book caller named text) name stored stored_now out out_now kept before back = free_after book name stored stored_now out out_now kept before back
free_behind (Import book who named ann) name stored stored_now out out_now kept before back = free_after book name stored stored_now out out_now kept before back
free_behind (Export book who named) name stored stored_now out out_now kept before back = free_still name stored stored_now out out_now (keeps_those (λ n _. λ none. none) kept) before
free_behind (ColumnsOut book who named) name stored stored_now out out_now kept before back = free_still name stored stored_now out out_now (keeps_those (λ n _. λ none. none) kept) before
free_behind (Agree book) name stored stored_now out out_now kept before back = free_still name stored stored_now out out_now (keeps_those (λ n _. λ none. none) kept) before
free_behind (Scores book) name stored stored_now out out_now kept before back = free_still name stored stored_now out out_now (keeps_those (λ n _. λ none. none) kept) before
free_behind (Progress book) name stored stored_now out out_now kept before back = free_still name stored stored_now out out_now (keeps_those (λ n _. λ none. none) kept) before
free_behind (Snapshots book) name stored stored_now out out_now kept before back = free_still name stored stored_now out out_now (keeps_those (λ n _. λ none. none) kept) before
free_behind (Curated book number) name stored stored_now out out_now kept before back = free_still name stored stored_now out out_now (keeps_those (λ n _. λ none. none) kept) before

-- there is a disk of each name as before, where one is there as before and the others are kept
pub there_after : (book name : List ℕ) (stored stored_now : Option Stored) (out out_now : Option (List (List ℕ))) → KeepsOthers book stored out stored_now out_now
    → is_there stored_now book ≡ is_there stored book → is_there stored_now name ≡ is_there stored name
there_after book name stored stored_now out out_now kept same =
    pick (bytes_eq name book) (bytes_eq-Decides name book) (λ is. subst (λ n. is_there stored_now n ≡ is_there stored n) (sym is) same) (λ other. kept.same_there name other)
