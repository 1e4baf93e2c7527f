use Rattle.std.proofs.Common.{◌≡◌, ℕ, ◌+◌, ◌<◌, ◌≤◌, ◌∙◌, refl, sym, ap, subst, arith, List, [], ◌∷◌, ◌++◌, Some, None, Result, drop, length, map, get_or, slice_get, true, false}
use Rattle.std.proofs.lemmas.List.{drop_all}
use Rattle.std.specs.Prelude.{IfSome}
use denote.Ref.{Bor}
use Rattle.token_columns.specs.declared.line.Judged.TheVariants.{Read}
use Rattle.mark_base.specs.declared.fragments.Frag.{Frag}
use Rattle.token_columns.specs.declared.run.Run.{Run}
use Rattle.token_columns.specs.declared.column_fault.ColumnFault.{ColumnFault}
use Rattle.token_columns.specs.Columns.{token_text}
use Rattle.token_columns.specs.LineShows.{seen_text}
use Rattle.token_columns.specs.ReadColumns.{Tag, opened, read_from, is_blank, judged}
use Rattle.token_columns.specs.ReadRuns.{closed, closed_by, AreRuns}
use Rattle.token_columns.proofs.TextLemmas.{next_is}
use Rattle.token_columns.proofs.ReadLemmas.{Reads, first_of, none_so_far, lines_next, first_at, text_at, some_token, still_room, blank_step, fault_step, label_step, few_step, end_step}
use Rattle.token_columns.proofs.reader.runs_read.Goals as goal
use Rattle.token_columns.proofs.reader.runs_read.Goals.{then-not-is_blank+in_ok-what+in-Read+in_ok-close_by-in-Read, else-not-is_blank}

pub loop-line-init : goal.loop-line-init
loop-line-init c = record {
  count = refl;
  place = omega arith;
  reads = record { before = []; are = subst (λ runs. AreRuns [] runs None) (sym c.new-runs.ensures.items) none_so_far; reads = refl };
  room = omega (arith, ap length c.new-runs.ensures.items);
}

pub judge-requires : goal.judge-requires
judge-requires c =
    let doc : List ℕ = c.args.doc.now in
    let texts : map seen_text c.args.texts.now ≡ map (token_text doc) c.tokens-tokens.result.now = c.requires.texts ∙ sym (ap (map (token_text doc)) c.tokens-tokens.ensures) in
    let is : c.next_text.result.now ≡ get_or (map (token_text doc) c.tokens-tokens.result.now) c.loop-line.place [] = c.next_text.ensures ∙ ap (λ l. get_or l c.loop-line.place []) texts in
    subst (λ o. IfSome o (λ token. c.next_text.result.now ≡ token_text doc token)) (sym c.next_token.ensures)
    (subst (λ t. IfSome (slice_get c.tokens-tokens.result.now c.loop-line.place) (λ token. t ≡ token_text doc token)) (sym is) (text_at doc c.tokens-tokens.result.now c.loop-line.place))

pub returns-in-Fault-clause-fault : goal.returns-in-Fault-clause-fault
returns-in-Fault-clause-fault c =
    let d : Bor (List ℕ) = record { ref_ptr = (0, 0); now = [] } in
    let line : List ℕ = (get_or c.args.lines.now c.loop-line.line-index d).now in
    let more : List (List ℕ) = map seen_text (drop (c.loop-line.line-index + 1) c.args.lines.now) in
    let blank : is_blank line ≡ false = sym (ap is_blank c.as_bytes.ensures.value) ∙ sym c.is_blank.ensures ∙ c.if-not-is_blank.true in
    let whole : Result (List Tag) ColumnFault = read_from c.args.conf.now c.args.doc.now 1 [] c.tokens-tokens.result.now (map seen_text c.args.lines.now) in
    let reads = subst (λ ls. Reads c.args.conf.now c.args.doc.now c.loop-line.number (drop c.loop-line.place c.tokens-tokens.result.now) ls whole c.loop-line.runs.items c.loop-line.last)
    (lines_next c.args.lines.now c.loop-line.line-index d c.loop-line-test.true) c.loop-line.invariant.reads in
    ap (λ ts. read_from c.args.conf.now c.args.doc.now 1 [] ts (map seen_text c.args.lines.now)) (sym c.tokens-tokens.ensures)
    ∙ fault_step c.args.conf.now c.args.doc.now c.loop-line.number (drop c.loop-line.place c.tokens-tokens.result.now) line more whole c.loop-line.runs.items c.loop-line.last c.begun.result c.next_token.result c.in-Fault.what
    blank reads (c.begun.ensures ∙ ap (λ (runs : List Run). length runs + length (closed c.loop-line.last)) c.deref.ensures.value)
    (c.next_token.ensures ∙ first_at c.tokens-tokens.result.now c.loop-line.place) (sym c.in-Fault.is ∙ c.in_ok-what.ensures)

pub bounds-tokens-place : goal.bounds-tokens-place
bounds-tokens-place c =
    some_token c.args.conf.now c.args.doc.now c.tokens-tokens.result.now c.loop-line.place c.loop-line.last c.begun.result _ c.in-Read.label c.next_token.result c.next_token.ensures (sym c.in-Read.is ∙ c.in_ok-what.ensures)

pub loop-line-preserved : goal.loop-line-preserved
loop-line-preserved c =
    let d : Bor (List ℕ) = record { ref_ptr = (0, 0); now = [] } in
    let t : Frag = record { start = 0; end = 0 } in
    let line : List ℕ = (get_or c.args.lines.now c.loop-line.line-index d).now in
    let more : List (List ℕ) = map seen_text (drop (c.loop-line.line-index + 1) c.args.lines.now) in
    let whole : Result (List Tag) ColumnFault = read_from c.args.conf.now c.args.doc.now 1 [] c.tokens-tokens.result.now (map seen_text c.args.lines.now) in
    let reads = subst (λ ls. Reads c.args.conf.now c.args.doc.now c.loop-line.number (drop c.loop-line.place c.tokens-tokens.result.now) ls whole c.loop-line.runs.items c.loop-line.last)
    (lines_next c.args.lines.now c.loop-line.line-index d c.loop-line-test.true) c.loop-line.invariant.reads in
    elim c.if-not-is_blank.branch [
      | then-not-is_blank+in_ok-what+in-Read+in_ok-close_by-in-Read w ↦
          let blank : is_blank line ≡ false = sym (ap is_blank c.as_bytes.ensures.value) ∙ sym c.is_blank.ensures ∙ w.if-not-is_blank.true in
          let token : Frag = get_or c.tokens-tokens.result.now c.loop-line.place t in
          let is : Read w.in-Read.label ≡ judged c.args.conf.now c.args.doc.now c.loop-line.last w.begun.result w.next_token.result line = sym w.in-Read.is ∙ w.in_ok-what.ensures in
          let within : c.loop-line.place < length c.tokens-tokens.result.now =
          some_token c.args.conf.now c.args.doc.now c.tokens-tokens.result.now c.loop-line.place c.loop-line.last w.begun.result line w.in-Read.label w.next_token.result w.next_token.ensures is in
          let tokens : drop c.loop-line.place c.tokens-tokens.result.now ≡ token ∷ drop (c.loop-line.place + 1) c.tokens-tokens.result.now = next_is c.tokens-tokens.result.now c.loop-line.place t within in
          let next : w.next_token.result ≡ Some token = w.next_token.ensures ∙ first_at c.tokens-tokens.result.now c.loop-line.place ∙ ap first_of tokens in
          let judged_it : Read w.in-Read.label ≡ judged c.args.conf.now c.args.doc.now c.loop-line.last w.begun.result (Some token) line =
          is ∙ ap (λ o. judged c.args.conf.now c.args.doc.now c.loop-line.last w.begun.result o line) next in
          let counts : w.begun.result ≡ length c.loop-line.runs.items + length (closed c.loop-line.last) = w.begun.ensures ∙ ap (λ (runs : List Run). length runs + length (closed c.loop-line.last)) w.deref.ensures.value in
          let added : w.close_by.new.runs.items ≡ c.loop-line.runs.items ++ closed_by c.loop-line.last w.in-Read.label = w.in_ok-close_by-in-Read.ensures in
          let step = label_step c.args.conf.now c.args.doc.now c.loop-line.number token (drop (c.loop-line.place + 1) c.tokens-tokens.result.now) line more whole c.loop-line.runs.items w.close_by.new.runs.items c.loop-line.last w.begun.result w.in-Read.label
          blank (subst (λ ts. Reads c.args.conf.now c.args.doc.now c.loop-line.number ts (line ∷ more) whole c.loop-line.runs.items c.loop-line.last) tokens reads) counts judged_it added in
          let room = still_room c.args.conf.now c.args.doc.now c.loop-line.runs.items w.close_by.new.runs.items c.loop-line.last w.begun.result token line w.in-Read.label c.loop-line.invariant.room counts judged_it added in
          let opens : opened c.loop-line.last token w.in-Read.label ≡ c.if-not-is_blank.last = sym w.opened-last.ensures ∙ sym w.last-is in
          let held : w.close_by.new.runs.items ≡ c.if-not-is_blank.runs.items = sym (ap (λ v. v.items) w.runs-is) in
          record {
            count = omega (arith, c.loop-line.invariant.count);
            place = omega (arith, w.place-is, within);
            reads =
                subst (λ p. Reads c.args.conf.now c.args.doc.now (c.loop-line.number + 1) (drop p c.tokens-tokens.result.now) more whole c.if-not-is_blank.runs.items c.if-not-is_blank.last) (sym w.place-is)
                (subst (λ l. Reads c.args.conf.now c.args.doc.now (c.loop-line.number + 1) (drop (c.loop-line.place + 1) c.tokens-tokens.result.now) more whole c.if-not-is_blank.runs.items l) opens
                (subst (λ runs. Reads c.args.conf.now c.args.doc.now (c.loop-line.number + 1) (drop (c.loop-line.place + 1) c.tokens-tokens.result.now) more whole runs (opened c.loop-line.last token w.in-Read.label)) held step));
            room = subst (λ l. length c.if-not-is_blank.runs.items + length (closed l) ≤ 10000) opens (subst (λ (runs : List Run). length runs + length (closed (opened c.loop-line.last token w.in-Read.label)) ≤ 10000) held room);
          }
      | else-not-is_blank w ↦
          let blank : is_blank line ≡ true = sym (ap is_blank c.as_bytes.ensures.value) ∙ sym c.is_blank.ensures ∙ w.if-not-is_blank.false in
          let step = blank_step c.args.conf.now c.args.doc.now c.loop-line.number (drop c.loop-line.place c.tokens-tokens.result.now) line more whole c.loop-line.runs.items c.loop-line.last blank reads in
          let held : c.loop-line.runs.items ≡ c.if-not-is_blank.runs.items = sym (ap (λ v. v.items) w.runs-is) in
          record {
            count = omega (arith, c.loop-line.invariant.count);
            place = omega (arith, w.place-is, c.loop-line.invariant.place);
            reads =
                subst (λ p. Reads c.args.conf.now c.args.doc.now (c.loop-line.number + 1) (drop p c.tokens-tokens.result.now) more whole c.if-not-is_blank.runs.items c.if-not-is_blank.last) (sym w.place-is)
                (subst (λ l. Reads c.args.conf.now c.args.doc.now (c.loop-line.number + 1) (drop c.loop-line.place c.tokens-tokens.result.now) more whole c.if-not-is_blank.runs.items l) (sym w.last-is)
                (subst (λ runs. Reads c.args.conf.now c.args.doc.now (c.loop-line.number + 1) (drop c.loop-line.place c.tokens-tokens.result.now) more whole runs c.loop-line.last) held step));
            room = subst (λ l. length c.if-not-is_blank.runs.items + length (closed l) ≤ 10000) (sym w.last-is) (subst (λ (runs : List Run). length runs + length (closed c.loop-line.last) ≤ 10000) held c.loop-line.invariant.room);
          }
    ]

pub returns-then-place-tokens-clause-fault : goal.returns-then-place-tokens-clause-fault
returns-then-place-tokens-clause-fault c =
    let t : Frag = record { start = 0; end = 0 } in
    let over : length c.args.lines.now ≤ c.loop-line.line-index = c.loop-line-test.false in
    let whole : Result (List Tag) ColumnFault = read_from c.args.conf.now c.args.doc.now 1 [] c.tokens-tokens.result.now (map seen_text c.args.lines.now) in
    let within : c.loop-line.place < length c.tokens-tokens.result.now = c.if-place-tokens.true in
    let reads = subst (λ ls. Reads c.args.conf.now c.args.doc.now c.loop-line.number (drop c.loop-line.place c.tokens-tokens.result.now) (map seen_text ls) whole c.loop-line.runs.items c.loop-line.last)
    (drop_all c.loop-line.line-index c.args.lines.now over) c.loop-line.invariant.reads in
    ap (λ ts. read_from c.args.conf.now c.args.doc.now 1 [] ts (map seen_text c.args.lines.now)) (sym c.tokens-tokens.ensures)
    ∙ few_step c.args.conf.now c.args.doc.now c.loop-line.number (get_or c.tokens-tokens.result.now c.loop-line.place t) (drop (c.loop-line.place + 1) c.tokens-tokens.result.now) whole c.loop-line.runs.items c.loop-line.last
    (subst (λ ts. Reads c.args.conf.now c.args.doc.now c.loop-line.number ts [] whole c.loop-line.runs.items c.loop-line.last) (next_is c.tokens-tokens.result.now c.loop-line.place t within) reads)

pub returns-clause-read : goal.returns-clause-read
returns-clause-read c =
    let over : length c.args.lines.now ≤ c.loop-line.line-index = c.loop-line-test.false in
    let none : length c.tokens-tokens.result.now ≤ c.loop-line.place = c.if-place-tokens.false in
    let whole : Result (List Tag) ColumnFault = read_from c.args.conf.now c.args.doc.now 1 [] c.tokens-tokens.result.now (map seen_text c.args.lines.now) in
    let reads = subst (λ ls. Reads c.args.conf.now c.args.doc.now c.loop-line.number (drop c.loop-line.place c.tokens-tokens.result.now) (map seen_text ls) whole c.loop-line.runs.items c.loop-line.last)
    (drop_all c.loop-line.line-index c.args.lines.now over) c.loop-line.invariant.reads in
    let said = end_step c.args.conf.now c.args.doc.now c.loop-line.number whole c.loop-line.runs.items c.close.new.runs.items c.loop-line.last
    (subst (λ ts. Reads c.args.conf.now c.args.doc.now c.loop-line.number ts [] whole c.loop-line.runs.items c.loop-line.last) (drop_all c.loop-line.place c.tokens-tokens.result.now none) reads) c.in_ok-close.ensures in
    (said.0, ap (λ ts. read_from c.args.conf.now c.args.doc.now 1 [] ts (map seen_text c.args.lines.now)) (sym c.tokens-tokens.ensures) ∙ said.1, said.2)
