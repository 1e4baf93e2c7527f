use Rattle.std.proofs.Common.{◌<◌, ◌≤◌, length, refl, sym, subst, arith}
use Rattle.char_documents.specs.Tokens.{tokens_of}
use Rattle.project_machine.specs.ProjectState.{annotators}
use Rattle.project_state.specs.declared.act.Act.{Act}
use Rattle.project_state.specs.declared.act.Act.TheVariants as act
use Rattle.project_state.specs.Acting.{CanAct, FitsRows}
use Rattle.project_state.proofs.RosterLemmas.{annotators_few}
use Rattle.project_state.specs.declared.tables.tabling.TableAct.{TableAct}
use Rattle.project_state.specs.declared.tables.tabling.TableAct.TheVariants as table
use Rattle.project_state.specs.Tables.Tabling.{IsTableAct}
use Rattle.project_state.proofs.TablesProofs.ActTables.{admits, drops, finishes, frees, holds, parks}
use Rattle.project_state.proofs.tables.tabling.table_act.Goals as goal

pub overflow_cast-result-then-ignored : goal.overflow_cast-result-then-ignored
overflow_cast-result-then-ignored c =
    let few : length (annotators c.args.state.now.state) ≤ 16 = annotators_few c.args.state.now.state c.requires.kept in
    let fits = subst (λ (a : Act). FitsRows a c.args.state.now.state) c.in-Ignore.is c.requires.fits in
    let within : c.in-Ignore.rater < length (annotators c.args.state.now.state) = fits.1 in
    omega arith

pub returns-in-AddDocument : goal.returns-in-AddDocument
returns-in-AddDocument c =
    let can = subst (λ (a : Act). CanAct a c.args.state.now.state) c.in-AddDocument.is c.requires.can in
    let fits = subst (λ (a : Act). FitsRows a c.args.state.now.state) c.in-AddDocument.is c.requires.fits in
    subst (λ (a : Act). IsTableAct c.args.state.now.state a c.admitted.result) (sym c.in-AddDocument.is)
    (subst (λ (t : TableAct). IsTableAct c.args.state.now.state (act.AddDocument c.in-AddDocument.added) t) (sym c.admitted.ensures)
    (admits c.args.state.now.state c.in-AddDocument.added (length (tokens_of c.in-AddDocument.added.text)) can.1 fits refl))

pub returns-in-Hold : goal.returns-in-Hold
returns-in-Hold c = subst (λ (a : Act). IsTableAct c.args.state.now.state a table.Nothing) (sym c.in-Hold.is) (holds c.args.state.now.state c.in-Hold.doc c.in-Hold.rater)

pub returns-in-Park : goal.returns-in-Park
returns-in-Park c = subst (λ (a : Act). IsTableAct c.args.state.now.state a table.Nothing) (sym c.in-Park.is) (parks c.args.state.now.state c.in-Park.doc c.in-Park.rater c.in-Park.done c.in-Park.undone)

pub returns-in-Finish : goal.returns-in-Finish
returns-in-Finish c = subst (λ (a : Act). IsTableAct c.args.state.now.state a table.Nothing) (sym c.in-Finish.is) (finishes c.args.state.now.state c.in-Finish.doc c.in-Finish.rater c.in-Finish.finished)

pub returns-then-ignored : goal.returns-then-ignored
returns-then-ignored c =
    let fits = subst (λ (a : Act). FitsRows a c.args.state.now.state) c.in-Ignore.is c.requires.fits in
    subst (λ (a : Act). IsTableAct c.args.state.now.state a (table.Drop c.in-Ignore.doc c.in-Ignore.rater)) (sym c.in-Ignore.is)
    (subst (λ b. IsTableAct c.args.state.now.state (act.Ignore c.in-Ignore.doc c.in-Ignore.rater b) (table.Drop c.in-Ignore.doc c.in-Ignore.rater)) (sym c.if-ignored.true)
    (drops c.args.state.now.state c.in-Ignore.doc c.in-Ignore.rater fits.0 fits.1))

pub returns-in-FreeAll : goal.returns-in-FreeAll
returns-in-FreeAll c = subst (λ (a : Act). IsTableAct c.args.state.now.state a table.Nothing) (sym c.in-FreeAll.is) (frees c.args.state.now.state)
