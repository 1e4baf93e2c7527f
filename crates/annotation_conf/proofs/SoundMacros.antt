-- Each macro of a file without fault holds something, and names that are declared.
use Rattle.std.proofs.Common.{◌≡◌, ℕ, ◌+◌, ◌<◌, ◌≤◌, ◌==◌, Bool, true, false, List, [], ◌∷◌, ◌++◌, length, filter, None, nat_lt, refl, sym, subst, ◌∙◌, ap, arith, append_assoc, append-nil}
use Rattle.std.specs.List.{AllByRecursion as Each, list_any, slice_split}
use Rattle.std.proofs.lemmas.Bool.{lt-ltb, le-ltb}
use Rattle.std.proofs.lemmas.List.{length-map}
use Rattle.std.proofs.lemmas.List.Splits.{length-slice_split}
use Rattle.conf_model.specs.ConfLines.{Place, Kind, Skipped, Header, Macro, Content, Line}
use Rattle.conf_model.specs.ConfPairs.{alternative_of, alternatives_of}
use Rattle.conf_model.specs.ConfNames.{MacroLine, File, all_held, macro_at, macros_from}
use Rattle.conf_model.specs.ConfFaults.{is_unknown, is_unheld, declared_names, fault_at, macro_fault}
use Rattle.annotation_conf.proofs.SoundLists.{Each-append, each_weaker}
use Rattle.annotation_conf.proofs.SoundLines.{AreNumbered}
use Rattle.annotation_conf.proofs.SoundFaults.{keeps_macro}
use Rattle.annotation_conf.proofs.SoundSteps.{filter_front}
use Rattle.annotation_conf.proofs.SoundHoldings.{AllHold, HoldsWell, all_may, all_some}

-- a split list has a part
pub split_some : (p : ℕ → Bool) (cs : List ℕ) → 0 < length (slice_split p cs)
split_some p cs = omega (arith, length-slice_split p cs)

pub alternatives_some : (cs : List ℕ) → 0 < length (alternatives_of cs)
alternatives_some cs = omega (arith, length-map (slice_split (λ c. c == 124) cs) alternative_of, split_some (λ c. c == 124) cs)

added_numbers : (before : List MacroLine) (number : ℕ) (place : Place) (kind : Kind) → Each (λ (macro : MacroLine). macro.number ≡ number) (macro_at before number place kind)
added_numbers before number place Skipped = tt
added_numbers before number place (Header section) = tt
added_numbers before number place (Macro name cs) = (refl, tt)
added_numbers before number place (Content cs) = tt

-- macros of more lines stand behind those of earlier lines
record Extends (n : ℕ) (before all : List MacroLine) : Type 0 where
  later : List MacroLine
  is : all ≡ before ++ later
  above : Each (λ (macro : MacroLine). n ≤ macro.number) later

extends : (n : ℕ) (before : List MacroLine) (lines : List Line) → AreNumbered n lines → Extends n before (macros_from before lines)
extends n before [] a = record { later = []; is = sym (append-nil before); above = tt }
extends n before (line ∷ lines) a =
    let added = macro_at before line.number line.place line.kind in
    let more = extends (n + 1) (before ++ added) lines a.1 in
    record {
      later = added ++ more.later;
      is = more.is ∙ append_assoc before added more.later;
      above =
          Each-append (λ (macro : MacroLine). n ≤ macro.number) added more.later
          (each_weaker (λ (macro : MacroLine). macro.number ≡ line.number) (λ (macro : MacroLine). n ≤ macro.number) (λ macro e. let at : line.number ≡ n = a.0 in omega arith) added (added_numbers before line.number line.place line.kind))
          (each_weaker (λ (macro : MacroLine). n + 1 ≤ macro.number) (λ (macro : MacroLine). n ≤ macro.number) (λ macro h. omega arith) more.later more.above);
    }

macro_well : (file : File) (before : List MacroLine) (number : ℕ) (name cs : List ℕ) → AllHold (declared_names file) before → filter (λ (macro : MacroLine). nat_lt macro.number number) file.macros ≡ before
    → macro_fault file number name (alternatives_of cs) ≡ None → HoldsWell (declared_names file) (all_held before (alternatives_of cs))
macro_well file before number name cs a f e =
    let kept = keeps_macro file number name (alternatives_of cs) e in
    let held = subst (λ macros. list_any (is_unheld macros true) (alternatives_of cs) ≡ false) f kept.held in
    let known = subst (λ macros. list_any (is_unknown macros (declared_names file) (declared_names file)) (alternatives_of cs) ≡ false) f kept.known in
    record {
      some = all_some (declared_names file) before true (alternatives_of cs) a (alternatives_some cs) held;
      known = (all_may (declared_names file) before (declared_names file) true (alternatives_of cs) a known held).known;
    }

added_well : (file : File) (before : List MacroLine) (number : ℕ) (place : Place) (kind : Kind) → AllHold (declared_names file) before
    → filter (λ (macro : MacroLine). nat_lt macro.number number) file.macros ≡ before → fault_at file number place kind ≡ None → AllHold (declared_names file) (macro_at before number place kind)
added_well file before number place Skipped a f e = tt
added_well file before number place (Header section) a f e = tt
added_well file before number place (Macro name cs) a f e = (macro_well file before number name cs a f e, tt)
added_well file before number place (Content cs) a f e = tt

pub macros_hold : (file : File) (n : ℕ) (before : List MacroLine) (lines : List Line) → AreNumbered n lines → file.macros ≡ macros_from before lines
    → Each (λ (macro : MacroLine). macro.number < n) before → AllHold (declared_names file) before → Each (λ (line : Line). fault_at file line.number line.place line.kind ≡ None) lines
    → AllHold (declared_names file) (macros_from before lines)
macros_hold file n before [] a is low well e = well
macros_hold file n before (line ∷ lines) a is low well e =
    let at : line.number ≡ n = a.0 in
    let added = macro_at before line.number line.place line.kind in
    let all = extends n before (line ∷ lines) a in
    let kept : filter (λ (macro : MacroLine). nat_lt macro.number line.number) file.macros ≡ before =
    ap (filter (λ (macro : MacroLine). nat_lt macro.number line.number)) (is ∙ all.is)
    ∙ filter_front (λ (macro : MacroLine). nat_lt macro.number line.number) before all.later
    (each_weaker (λ (macro : MacroLine). macro.number < n) (λ (macro : MacroLine). nat_lt macro.number line.number ≡ true) (λ macro h. lt-ltb macro.number line.number (omega arith)) before low)
    (each_weaker (λ (macro : MacroLine). n ≤ macro.number) (λ (macro : MacroLine). nat_lt macro.number line.number ≡ false) (λ macro h. le-ltb macro.number line.number (omega arith)) all.later all.above) in
    macros_hold file (n + 1) (before ++ added) lines a.1 is
    (Each-append (λ (macro : MacroLine). macro.number < n + 1) before added
    (each_weaker (λ (macro : MacroLine). macro.number < n) (λ (macro : MacroLine). macro.number < n + 1) (λ macro h. omega arith) before low)
    (each_weaker (λ (macro : MacroLine). macro.number ≡ line.number) (λ (macro : MacroLine). macro.number < n + 1) (λ macro h. omega arith) added (added_numbers before line.number line.place line.kind)))
    (Each-append (λ (macro : MacroLine). HoldsWell (declared_names file) macro.holding) before added well (added_well file before line.number line.place line.kind well kept e.0)) e.1
