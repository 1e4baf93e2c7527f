-- What a writer of CSV has written (private calls only).
use Rattle.std.specs.Prelude.{◌≡◌, ℕ, false, List, ◌++◌}
use Rattle.std.specs.Global.{Vec}
use Rattle.csv.specs.Writing.{default_writer, writer_setup, fields_written, has_written, writer_under, writer_pending}
use Rattle.csv.specs.declared.writer.Writer.{Writer}

-- what a writer has written so far
abbrev pub text_of : Writer (Vec ℕ) → List ℕ
text_of writer = (writer_under writer).items ++ writer_pending writer

-- it writes as by default, and stands between two records
pub record IsReady (writer : Writer (Vec ℕ)) : Type 0 where
  pub setup : writer_setup writer ≡ default_writer
  pub fields : fields_written writer ≡ 0
  pub clean : has_written writer ≡ false
