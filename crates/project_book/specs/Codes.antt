-- How the value of a book is told apart by a proof (private calls only).
use Rattle.std.specs.Prelude.{◌≡◌, ◌⊎◌, ℕ, List}
use Rattle.std.proofs.Common.{refl, inl, inr}
use Rattle.std.specs.Coded.{Coded, code_by, coded×, coded⊎, coded_ℕ, coded_list}
use Rattle.mark_base.specs.declared.ann_id.AnnId.{AnnId}
use Rattle.mark_base.specs.contracts.ann_id.AnnId as id_row
use Rattle.entry_bytes.specs.declared.person.Person.{Person}
use Rattle.entry_bytes.specs.contracts.person.Person as person_row
use Rattle.conf_model.specs.Configurations.{Configuration, configuration_code}
use Rattle.layer_model.specs.Annotations.{Annotations, annotations_code}
use Rattle.layer_core.specs.declared.command.Command.{Command}
use Rattle.layer_core.specs.contracts.command.Command as command_row
use Rattle.curator_decisions.specs.declared.verdict.Verdict.{Verdict}
use Rattle.curator_decisions.specs.contracts.verdict.Verdict as verdict_row
use Rattle.kappa_alpha.specs.contracts.tables.Tables as tables_row
use Rattle.kappa_alpha.specs.Standing.{Standing}
use Rattle.project_machine.specs.ProjectState.{ProjectState}
use Rattle.project_machine.specs.Requests.{Happened, Founded, TextAdded, CheckedOut, TakenOver, LayerCommitted, LayerParked, LayerFinished, LayerReopened, LayerIgnored, LayerReadmitted, SnapshotTaken, ItemDecided, ItemUndecided, Restored, AllFreed}
use Rattle.project_state.specs.Codes.{state_code}
use Rattle.project_book.specs.Keeping.{BookValue}

-- the code of a text
abbrev pub text_code : Coded (List ℕ)
text_code = coded_list coded_ℕ

-- what happened as a sum of tuples; a freeing, which has no field, is a number
abbrev pub Parts : Type 0
Parts = (Configuration × (ℕ × List Person)) ⊎ ((List ℕ × (List ℕ × List ℕ)) ⊎ ((List ℕ × ℕ) ⊎ ((List ℕ × ℕ) ⊎ ((List ℕ × (ℕ × (ℕ × Annotations))) ⊎ ((List ℕ × (ℕ × (ℕ × (List Command × List Command)))) ⊎ ((List ℕ × ℕ) ⊎ ((List ℕ × (ℕ × List ℕ)) ⊎ ((List ℕ × (ℕ × List ℕ)) ⊎ ((List ℕ × (ℕ × List ℕ)) ⊎ ((List ℕ × ℕ) ⊎ ((List ℕ × (ℕ × (ℕ × (AnnId × Verdict)))) ⊎ ((List ℕ × (ℕ × (ℕ × AnnId))) ⊎ ((ℕ × ProjectState) ⊎ ℕ)))))))))))))

-- the parts of what happened
abbrev pub parts : Happened → Parts
parts (Founded conf level people) = inl (conf, (level, people))
parts (TextAdded by name text) = inr (inl (by, (name, text)))
parts (CheckedOut by doc) = inr (inr (inl (by, doc)))
parts (TakenOver by doc) = inr (inr (inr (inl (by, doc))))
parts (LayerCommitted by doc hold layer) = inr (inr (inr (inr (inl (by, (doc, (hold, layer)))))))
parts (LayerParked by doc hold done undone) = inr (inr (inr (inr (inr (inl (by, (doc, (hold, (done, undone)))))))))
parts (LayerFinished by doc) = inr (inr (inr (inr (inr (inr (inl (by, doc)))))))
parts (LayerReopened by doc who) = inr (inr (inr (inr (inr (inr (inr (inl (by, (doc, who)))))))))
parts (LayerIgnored by doc who) = inr (inr (inr (inr (inr (inr (inr (inr (inl (by, (doc, who))))))))))
parts (LayerReadmitted by doc who) = inr (inr (inr (inr (inr (inr (inr (inr (inr (inl (by, (doc, who)))))))))))
parts (SnapshotTaken by doc) = inr (inr (inr (inr (inr (inr (inr (inr (inr (inr (inl (by, doc)))))))))))
parts (ItemDecided by number holder id verdict) = inr (inr (inr (inr (inr (inr (inr (inr (inr (inr (inr (inl (by, (number, (holder, (id, verdict)))))))))))))))
parts (ItemUndecided by number holder id) = inr (inr (inr (inr (inr (inr (inr (inr (inr (inr (inr (inr (inl (by, (number, (holder, id)))))))))))))))
parts (Restored place state) = inr (inr (inr (inr (inr (inr (inr (inr (inr (inr (inr (inr (inr (inl (place, state))))))))))))))
parts AllFreed = inr (inr (inr (inr (inr (inr (inr (inr (inr (inr (inr (inr (inr (inr 0)))))))))))))

-- what happened, of its parts
abbrev pub of_parts : Parts → Happened
of_parts (inl p) = Founded p.0 p.1.0 p.1.1
of_parts (inr (inl p)) = TextAdded p.0 p.1.0 p.1.1
of_parts (inr (inr (inl p))) = CheckedOut p.0 p.1
of_parts (inr (inr (inr (inl p)))) = TakenOver p.0 p.1
of_parts (inr (inr (inr (inr (inl p))))) = LayerCommitted p.0 p.1.0 p.1.1.0 p.1.1.1
of_parts (inr (inr (inr (inr (inr (inl p)))))) = LayerParked p.0 p.1.0 p.1.1.0 p.1.1.1.0 p.1.1.1.1
of_parts (inr (inr (inr (inr (inr (inr (inl p))))))) = LayerFinished p.0 p.1
of_parts (inr (inr (inr (inr (inr (inr (inr (inl p)))))))) = LayerReopened p.0 p.1.0 p.1.1
of_parts (inr (inr (inr (inr (inr (inr (inr (inr (inl p))))))))) = LayerIgnored p.0 p.1.0 p.1.1
of_parts (inr (inr (inr (inr (inr (inr (inr (inr (inr (inl p)))))))))) = LayerReadmitted p.0 p.1.0 p.1.1
of_parts (inr (inr (inr (inr (inr (inr (inr (inr (inr (inr (inl p))))))))))) = SnapshotTaken p.0 p.1
of_parts (inr (inr (inr (inr (inr (inr (inr (inr (inr (inr (inr (inl p)))))))))))) = ItemDecided p.0 p.1.0 p.1.1.0 p.1.1.1.0 p.1.1.1.1
of_parts (inr (inr (inr (inr (inr (inr (inr (inr (inr (inr (inr (inr (inl p))))))))))))) = ItemUndecided p.0 p.1.0 p.1.1.0 p.1.1.1
of_parts (inr (inr (inr (inr (inr (inr (inr (inr (inr (inr (inr (inr (inr (inl p)))))))))))))) = Restored p.0 p.1
of_parts (inr (inr (inr (inr (inr (inr (inr (inr (inr (inr (inr (inr (inr (inr p)))))))))))))) = AllFreed

pub parts_are_all : (happened : Happened) → of_parts (parts happened) ≡ happened
parts_are_all (Founded conf level people) = refl
parts_are_all (TextAdded by name text) = refl
parts_are_all (CheckedOut by doc) = refl
parts_are_all (TakenOver by doc) = refl
parts_are_all (LayerCommitted by doc hold layer) = refl
parts_are_all (LayerParked by doc hold done undone) = refl
parts_are_all (LayerFinished by doc) = refl
parts_are_all (LayerReopened by doc who) = refl
parts_are_all (LayerIgnored by doc who) = refl
parts_are_all (LayerReadmitted by doc who) = refl
parts_are_all (SnapshotTaken by doc) = refl
parts_are_all (ItemDecided by number holder id verdict) = refl
parts_are_all (ItemUndecided by number holder id) = refl
parts_are_all (Restored place state) = refl
parts_are_all AllFreed = refl

-- what happened as its parts
abbrev pub happened_code : Coded Happened
happened_code =
    code_by Parts
    (coded⊎ (coded× configuration_code (coded× coded_ℕ (coded_list person_row.the_row.coded))) (coded⊎ (coded× text_code (coded× text_code text_code)) (coded⊎ (coded× text_code coded_ℕ) (coded⊎ (coded× text_code coded_ℕ) (coded⊎ (coded× text_code (coded× coded_ℕ (coded× coded_ℕ annotations_code))) (coded⊎ (coded× text_code (coded× coded_ℕ (coded× coded_ℕ (coded× (coded_list command_row.the_row.coded) (coded_list command_row.the_row.coded))))) (coded⊎ (coded× text_code coded_ℕ) (coded⊎ (coded× text_code (coded× coded_ℕ text_code)) (coded⊎ (coded× text_code (coded× coded_ℕ text_code)) (coded⊎ (coded× text_code (coded× coded_ℕ text_code)) (coded⊎ (coded× text_code coded_ℕ) (coded⊎ (coded× text_code (coded× coded_ℕ (coded× coded_ℕ (coded× id_row.the_row.coded verdict_row.the_row.coded)))) (coded⊎ (coded× text_code (coded× coded_ℕ (coded× coded_ℕ id_row.the_row.coded))) (coded⊎ (coded× coded_ℕ state_code) coded_ℕ))))))))))))))
    parts of_parts parts_are_all

-- a book as the tuple of its fields
abbrev pub book_code : {K : Type 0} → Coded K → Coded (BookValue K)
book_code {K} keeper_code =
    code_by (List Happened × (K × Standing)) (coded× (coded_list happened_code) (coded× keeper_code tables_row.the_row.coded))
    (λ b. (b.log, (b.keeper, b.tables))) (λ p. record { log = p.0; keeper = p.1.0; tables = p.1.1 }) (λ _. refl)
