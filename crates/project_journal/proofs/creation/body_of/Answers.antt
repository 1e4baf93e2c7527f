use Rattle.std.proofs.Common.{◌≡◌, ◌++◌, ◌∷◌, [], List, ℕ, take, ap, sym, ◌∙◌, append_assoc}
use Rattle.std.proofs.lemmas.Grind.{take_at_read}
use Rattle.project_journal.specs.JournalFile.{version_bytes, record_of, records}
use Rattle.project_journal.specs.RecordLaws.{records-push}
use Rattle.project_journal.proofs.creation.body_of.Goals as goal

-- the entries so far and one more
more : (entries : List (List ℕ)) (entry body : List ℕ) → body ≡ version_bytes 2 ++ records entries → body ++ 1 ∷ record_of entry ≡ version_bytes 2 ++ records (entries ++ entry ∷ [])
more entries entry body so_far = ap (λ (l : List ℕ). l ++ 1 ∷ record_of entry) so_far ∙ append_assoc (version_bytes 2) (records entries) (1 ∷ record_of entry) ∙ ap (λ (l : List ℕ). version_bytes 2 ++ l) (sym (records-push entries entry))

pub loop-entry-preserved : goal.loop-entry-preserved
loop-entry-preserved c =
    let entry = c.entry-item.result in
    let before = take c.loop-entry.entry-index c.args.entries.now in
    let next = (take_at_read c.args.entries.now c.loop-entry.entry-index entry c.loop-entry-test.true).1 ∙ ap (λ (e : List ℕ). before ++ e ∷ []) (sym c.entry-item.is) in
    c.in_ok-push_record.ensures ∙ ap (λ (e : List ℕ). c.loop-entry.body.items ++ 1 ∷ record_of e) c.items.ensures
    ∙ more before entry c.loop-entry.body.items c.loop-entry.invariant ∙ ap (λ (l : List (List ℕ)). version_bytes 2 ++ records l) (sym next)
