-- A journal just created or opened.
use Rattle.std.proofs.Common.{◌≡◌, ℕ, false, List, [], ◌∷◌, ◌++◌, length, take, refl, sym, ◌∙◌, ap, subst, arith, length-append, Option, Some, None, option_map, is_some}
use Rattle.std.proofs.lemmas.List.{take_at, get_or_at}
use Rattle.project_journal.specs.Disk.{Durable}
use Rattle.project_journal.specs.JournalFile.{mark, version_bytes, number_of, records, new_front, opened}
use Rattle.project_journal.specs.RecordLaws.{AreEntries}
use Rattle.project_journal.specs.Settled.{IsFront, Shut, IsSettled, kept_by}
use Rattle.project_journal.specs.SettledLaws.{settled_shut, kept_by_front, opened_shut}
use Rattle.project_journal.specs.Opening.{Reads}

-- a new file up to its last gate
pub front_one : IsFront (new_front 1 []) []
unfolding number_of
front_one = record { long = omega arith; marked = refl; known = refl; whole = refl }

pub front_two : (es : List (List ℕ)) → IsFront (new_front 2 es) es
unfolding number_of
front_two es = record { long = omega (arith, length-append (mark ++ version_bytes 2) (records es)); marked = refl; known = refl; whole = refl }

-- a front and a closed gate
pub reads_front : (front : List ℕ) (es : List (List ℕ)) → IsFront front es → AreEntries es → Reads (front ++ 0 ∷ []) (length front) es
reads_front front es is are = record {
  are = are;
  front = subst (λ (l : List ℕ). IsFront l es) (sym (take_at front (0 ∷ []) (length front) refl)) is;
  within = omega (arith, length-append front (0 ∷ []));
  closed = λ one. absurd (omega (arith, one, get_or_at front 0 [] 0 (length front) refl));
}

-- what is read whole from a durable file is settled
pub reads_settled : (images : List ℕ → Type 0) (holds : Option (List ℕ)) (gate : ℕ) (es : List (List ℕ)) (f : List ℕ) → images f → Durable holds images → holds ≡ Some f → Reads f gate es → IsSettled images gate false f
reads_settled images holds gate es f image durable is reads =
    let shut : Shut gate (take gate f) f = record { same = refl; within = reads.within; closed = reads.closed } in
    settled_shut images gate (take gate f) es f reads.front reads.are image (λ c at. let same : f ≡ c = cc (durable c at, is) in subst (Shut gate (take gate f)) same shut)

pub reads_kept : (holds : Option (List ℕ)) (gate : ℕ) (es : List (List ℕ)) (f : List ℕ) → holds ≡ Some f → Reads f gate es → kept_by holds gate ≡ Some es
reads_kept holds gate es f is reads = ap (λ o. kept_by o gate) is ∙ ap (λ l. Some l) (kept_by_front gate (take gate f) es f reads.front reads.are refl)

pub reads_opened : (gate : ℕ) (es : List (List ℕ)) (f : List ℕ) → Reads f gate es → opened f ≡ Some es
reads_opened gate es f reads = opened_shut gate (take gate f) es f reads.front reads.are (record { same = refl; within = reads.within; closed = reads.closed })

-- the same where the file is told
pub opens_kept : (held holds : Option (List ℕ)) (gate : ℕ) (es : List (List ℕ)) → holds ≡ held → ((f : List ℕ) → held ≡ Some f → Reads f gate es) → kept_by holds gate ≡ option_map (λ _. es) held
opens_kept None holds gate es same reads = ap (λ o. kept_by o gate) same
opens_kept (Some f) holds gate es same reads = reads_kept holds gate es f same (reads f refl)

-- a new file where the old one was told
module _ (held holds : Option (List ℕ)) (gate : ℕ) (es : List (List ℕ)) (new : List ℕ) (told : is_some holds ≡ is_some held) (ok : (f : List ℕ) → held ≡ Some f → holds ≡ Some new) (reads : Reads new gate es) where
  pub new_kept : kept_by holds gate ≡ option_map (λ _. es) held
  new_kept = by held holds told ok
    where
      by : (held holds : Option (List ℕ)) → is_some holds ≡ is_some held → ((f : List ℕ) → held ≡ Some f → holds ≡ Some new) → kept_by holds gate ≡ option_map (λ _. es) held
      by None None told ok = refl
      by None (Some h) told ok = absurd (cc)
      by (Some f) holds told ok = reads_kept holds gate es new (ok f refl) reads

  pub new_holds : holds ≡ option_map (λ _. new) held
  new_holds = by held holds told ok
    where
      by : (held holds : Option (List ℕ)) → is_some holds ≡ is_some held → ((f : List ℕ) → held ≡ Some f → holds ≡ Some new) → holds ≡ option_map (λ _. new) held
      by None None told ok = refl
      by None (Some h) told ok = absurd (cc)
      by (Some f) holds told ok = ok f refl

  pub new_reads : (h : List ℕ) → holds ≡ Some h → Reads h gate es
  new_reads h is = by held holds told ok h is
    where
      by : (held holds : Option (List ℕ)) → is_some holds ≡ is_some held → ((f : List ℕ) → held ≡ Some f → holds ≡ Some new) → (h : List ℕ) → holds ≡ Some h → Reads h gate es
      by None holds told ok h is = absurd (cc (told, ap is_some is))
      by (Some f) holds told ok h is = let same : new ≡ h = cc (ok f refl, is) in subst (λ l. Reads l gate es) same reads
