use Rattle.std.proofs.Common.{List, ℕ, inl, inr, subst}
use Rattle.project_commands.specs.Importing.{NoLayer, ReadsLayer}
use Rattle.project_commands.proofs.importing.import_here.Goals as goal

pub returns-in-Err-clause-refused : goal.returns-in-Err-clause-refused
returns-in-Err-clause-refused g c =
    inl (subst (λ (doc : List ℕ). NoLayer c.args.project.now.log c.args.who doc (g.F.Folder.file c.args.folder.now c.args.ann.now) (g.F.Folder.folder_faults c.args.folder.now)
    (g.F.Folder.folder_faults c.read_layer.new.folder) c.in-Err.why) c.in_ok-doc.ensures c.in-Err.ensures.refused)

pub returns-in-Err-import_layer-clause-refused : goal.returns-in-Err-import_layer-clause-refused
returns-in-Err-import_layer-clause-refused g c =
    inr (record {
      layer = c.in-Ok.layer;
      between = c.read_layer.new.project.log;
      read = subst (λ (doc : List ℕ). ReadsLayer c.args.project.now.log c.args.who doc (g.F.Folder.file c.args.folder.now c.args.ann.now) c.in-Ok.layer c.read_layer.new.project.log)
          c.in_ok-doc.ensures c.in-Ok.ensures.read;
      told = c.in-Err-import_layer.ensures.refused;
    })

pub returns-clause-imported : goal.returns-clause-imported
returns-clause-imported g c = record {
  layer = c.in-Ok.layer;
  between = c.read_layer.new.project.log;
  read = subst (λ (doc : List ℕ). ReadsLayer c.args.project.now.log c.args.who doc (g.F.Folder.file c.args.folder.now c.args.ann.now) c.in-Ok.layer c.read_layer.new.project.log)
      c.in_ok-doc.ensures c.in-Ok.ensures.read;
  revision = c.in-Ok-import_layer.revision;
  imported = c.in-Ok-import_layer.ensures.imported;
  line = c.in_ok-line.ensures;
}
