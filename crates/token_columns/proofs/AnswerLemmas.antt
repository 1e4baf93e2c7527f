-- What the reader answers of bytes that are a text.
use Rattle.std.proofs.Common.{◌≡◌, ℕ, List, [], Result, Ok, Err, IfErr, length, nat_lt, IsUtf8, sym, subst, arith}
use Rattle.std.specs.Str.Lines.{lines}
use Rattle.std.specs.Str.Lossy.{utf8_valid_len}
use Rattle.std.proofs.lemmas.Str.{utf8_valid_len-IsUtf8}
use Rattle.std.proofs.lemmas.Bool.{cond-false, le-ltb}
use Rattle.char_documents.specs.Tokens.{tokens_of}
use Rattle.conf_model.specs.Configurations.{Configuration}
use Rattle.layer_model.specs.Annotations.{Annotations}
use Rattle.token_columns.specs.declared.column_fault.ColumnFault.{ColumnFault}
use Rattle.token_columns.specs.ReadColumns.{Tells, read_from, read_of}

-- bytes that are a text are read line by line
pub text_read : (conf : Configuration) (text bytes : List ℕ) → IsUtf8 bytes → read_of conf text bytes ≡ read_from conf text 1 [] (tokens_of text) (lines bytes)
unfolding read_of
text_read conf text bytes valid = cond-false (nat_lt (utf8_valid_len bytes) (length bytes)) _ _ (le-ltb (utf8_valid_len bytes) (length bytes) (omega (arith, utf8_valid_len-IsUtf8 bytes valid)))

text_told : (conf : Configuration) (text bytes : List ℕ) (fault : ColumnFault) → IsUtf8 bytes → Tells (read_from conf text 1 [] (tokens_of text) (lines bytes)) fault → Tells (read_of conf text bytes) fault
text_told conf text bytes fault valid told = subst (λ r. Tells r fault) (sym (text_read conf text bytes valid)) told

pub answer_told : (conf : Configuration) (text bytes : List ℕ) (answer : Result Annotations ColumnFault) → IsUtf8 bytes → IfErr answer (Tells (read_from conf text 1 [] (tokens_of text) (lines bytes)))
    → IfErr answer (Tells (read_of conf text bytes))
answer_told conf text bytes (Ok layer) valid told = tt
answer_told conf text bytes (Err fault) valid told = text_told conf text bytes fault valid told
