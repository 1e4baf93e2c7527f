-- What the values of a request can be: each name is a slug, each text is one of a document, and each number is in range.
use Rattle.std.specs.Prelude.{◌≡◌, ℕ, ◌<◌, ◌≤◌, ◌^◌, List, length, chars, encode_utf8_all, IsUtf8, ⊤}
use Rattle.entry_bytes.specs.Fields.{IsSlug}
use Rattle.command_bytes.specs.CommandValues.{AreCommands, IsTypedLayer}
use Rattle.project_machine.specs.Requests.{Asked, ReadConf, ListDocs, ReadText, AddText, Checkout, TakeOver, Commit, Park, Finish, ReadLayer, Reopen, Ignore, Readmit, Snap, TakeSnapshot, Decide, Undecide, ReadPairs, ReadAlpha, ReadReport}

-- the characters of a document's text, at most 200,000
pub record IsDocText (text : List ℕ) : Type 0 where
  pub short : length text ≤ 200000
  pub valid : IsUtf8 (encode_utf8_all text)
  pub characters : chars (encode_utf8_all text) ≡ text

-- a request
abbrev pub IsAsked : Asked → Type 0
IsAsked ReadConf = ⊤
IsAsked ListDocs = ⊤
IsAsked (ReadText name) = IsSlug name
IsAsked (AddText name text) = IsSlug name × IsDocText text
IsAsked (Checkout name) = IsSlug name
IsAsked (TakeOver name) = IsSlug name
IsAsked (Commit name hold layer) = IsSlug name × (hold < 2 ^ 64) × IsTypedLayer layer
IsAsked (Park name hold done undone) = IsSlug name × (hold < 2 ^ 64) × AreCommands done × AreCommands undone
IsAsked (Finish name) = IsSlug name
IsAsked (ReadLayer name who) = IsSlug name × IsSlug who
IsAsked (Reopen name who) = IsSlug name × IsSlug who
IsAsked (Ignore name who) = IsSlug name × IsSlug who
IsAsked (Readmit name who) = IsSlug name × IsSlug who
IsAsked (Snap name) = IsSlug name
IsAsked (TakeSnapshot number) = number < 2 ^ 64
IsAsked (Decide number holder id verdict) = (number < 2 ^ 64) × IsSlug holder
IsAsked (Undecide number holder id) = (number < 2 ^ 64) × IsSlug holder
IsAsked ReadPairs = ⊤
IsAsked ReadAlpha = ⊤
IsAsked (ReadReport report) = ⊤
