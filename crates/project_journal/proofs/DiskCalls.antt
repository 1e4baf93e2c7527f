-- Which calls of a disk in memory fail, and what their effect is.
use Rattle.std.proofs.Common.{rules, ◌≡◌, refl, sym, ◌∙◌, ap, ℕ, ◌+◌, ◌<◌, ◌≤◌, suc, Bool, true, false, cond, not, ◌||◌, nat_eq, List, [], ◌∷◌, length, get_or, drop, map, find, Option, Some, None, is_some, is_none, option_map, unwrap_or, Result, Ok, Err, is_ok, is_err, IsErr, OnOk, add-one, arith, inl, inr}
use Rattle.std.proofs.lemmas.Bool.{eq-eqb, ne_eqb, cases_lt}
use Rattle.std.proofs.Math.Seq.{drop-cons}
use Rattle.std.specs.List.{AllByRecursion, list_any}
use Rattle.std.proofs.lemmas.List.Elements.{recursion_from_All}
use Rattle.mark_base.specs.declared.failed.Failed.{Failed}
use Rattle.mark_base.specs.Streams.{CountsOne}
use Rattle.mark_base.specs.FailList.{CountsCall}
use Rattle.project_journal.specs.declared.disk_fails.DiskFail.{DiskFail}
use Rattle.project_journal.specs.DiskFails.{NoFailLeft, fate_of, is_done}

-- ---- the list

hit : (fail : DiskFail) (fails : List DiskFail) (call : ℕ) → fail.call ≡ call → fate_of (fail ∷ fails) call ≡ Some fail.done
hit fail fails call e = ap (λ b. option_map (λ (f : DiskFail). f.done) (cond b (Some fail) (find (λ (f : DiskFail). nat_eq f.call call) fails))) (eq-eqb fail.call call e)

missed : (fail : DiskFail) (fails : List DiskFail) (call : ℕ) → (fail.call ≡ call → ⊥) → fate_of (fail ∷ fails) call ≡ fate_of fails call
missed fail fails call e = ap (λ b. option_map (λ (f : DiskFail). f.done) (cond b (Some fail) (find (λ (f : DiskFail). nat_eq f.call call) fails))) (ne_eqb fail.call call e)

pub fate_here : (fails : List DiskFail) (i call : ℕ) (d : DiskFail) → i < length fails → (get_or fails i d).call ≡ call → fate_of (drop i fails) call ≡ Some (get_or fails i d).done
fate_here fails i call d within e = ap (λ l. fate_of l call) (drop-cons fails i d within) ∙ hit (get_or fails i d) (drop (suc i) fails) call e

pub fate_later : (fails : List DiskFail) (i call : ℕ) (d : DiskFail) → i < length fails → ((get_or fails i d).call ≡ call → ⊥) → fate_of (drop i fails) call ≡ fate_of (drop (i + 1) fails) call
fate_later fails i call d within e =
    ap (λ l. fate_of l call) (drop-cons fails i d within) ∙ missed (get_or fails i d) (drop (suc i) fails) call e ∙ ap (λ n. fate_of (drop n fails) call) (sym (add-one i))

none_by : (fails : List DiskFail) (calls : ℕ) → AllByRecursion (λ (fail : DiskFail). fail.call ≤ calls) fails → fate_of fails (calls + 1) ≡ None
none_by [] calls all = refl
none_by (fail ∷ fails) calls all = missed fail fails (calls + 1) (λ e. omega (arith, all.0)) ∙ none_by fails calls all.1

pub none_left : (fails : List DiskFail) (calls : ℕ) → NoFailLeft calls fails → fate_of fails (calls + 1) ≡ None
none_left fails calls left = none_by fails calls (recursion_from_All (λ (fail : DiskFail). fail.call ≤ calls) fails left)

pub listed_is : (fails : List DiskFail) (call : ℕ) → list_any (λ number. nat_eq number call) (map (λ (fail : DiskFail). fail.call) fails) ≡ is_some (fate_of fails call)
listed_is [] call = refl
listed_is (fail ∷ fails) call = by (nat_eq fail.call call) (listed_is fails call)
  where
    by : (b : Bool) → list_any (λ number. nat_eq number call) (map (λ (f : DiskFail). f.call) fails) ≡ is_some (fate_of fails call)
        → (b || list_any (λ number. nat_eq number call) (map (λ (f : DiskFail). f.call) fails)) ≡ is_some (option_map (λ (f : DiskFail). f.done) (cond b (Some fail) (find (λ (f : DiskFail). nat_eq f.call call) fails)))
    by true e = refl
    by false e = e

-- ---- a call

-- a call by its fate and its answer, where the list was seen behind a reference
module _ (fails seen : List DiskFail) (calls : ℕ) (fate : Option Bool) (result : Result (Unit {0}) Failed) (same : seen ≡ fails)
    (listed : calls < 18446744073709551615 → fate ≡ fate_of seen (calls + 1)) (answered : is_ok result ≡ is_none fate) where
  fate_is : calls < 18446744073709551615 → fate ≡ fate_of fails (calls + 1)
  fate_is below = listed below ∙ ap (λ l. fate_of l (calls + 1)) same

  failed_is : is_err result ≡ is_some fate
  failed_is = by result fate answered
    where
      by : (result : Result (Unit {0}) Failed) (fate : Option Bool) → is_ok result ≡ is_none fate → is_err result ≡ is_some fate
      by (Ok u) None e = refl
      by (Ok u) (Some done) e = sym e
      by (Err f) None e = sym e
      by (Err f) (Some done) e = refl

  pub counted_is : (after faults now : ℕ) (failed : Bool) → is_err result ≡ failed → (calls < 18446744073709551615 → after ≡ calls + 1) → (IsErr result → CountsOne faults now) → OnOk result (now ≡ faults)
      → CountsCall (record { fails = map (λ (fail : DiskFail). fail.call) fails; calls = calls; faults = faults }) failed
      (record { fails = map (λ (fail : DiskFail). fail.call) fails; calls = after; faults = now })
  counted_is after faults now failed is counted one still = record {
    listed = λ below. sym is ∙ failed_is ∙ ap is_some (fate_is below) ∙ sym (listed_is fails (calls + 1));
    counted = counted;
    fails = refl;
    still = λ e. still_is result still (is ∙ e);
    one = λ e. one_is result one (is ∙ e);
  }
    where
      still_is : (result : Result (Unit {0}) Failed) → OnOk result (now ≡ faults) → is_err result ≡ false → now ≡ faults
      still_is (Ok u) h e = h
      still_is (Err f) h e = cc

      one_is : (result : Result (Unit {0}) Failed) → (IsErr result → CountsOne faults now) → is_err result ≡ true → CountsOne faults now
      one_is (Ok u) h e = cc
      one_is (Err f) h e = h (search rules)

  -- the effect is done exactly where the call succeeds or the list says so
  pub acts_is : (18446744073709551615 ≤ calls → fate ≡ None) → (not (is_err result) || is_done fails (calls + 1)) ≡ unwrap_or fate true
  acts_is past = ap (λ b. not b || is_done fails (calls + 1)) failed_is ∙ by fate fate_is past
    where
      by : (fate : Option Bool) → (calls < 18446744073709551615 → fate ≡ fate_of fails (calls + 1)) → (18446744073709551615 ≤ calls → fate ≡ None)
          → (not (is_some fate) || is_done fails (calls + 1)) ≡ unwrap_or fate true
      by None is none = refl
      by (Some done) is none = elim (cases_lt calls 18446744073709551615) [ inl below ↦ ap (λ o. unwrap_or o false) (sym (is below)) | inr above ↦ absurd (some_none (none above)) ]
        where
          some_none : Some done ≡ None → ⊥
          some_none e = cc
