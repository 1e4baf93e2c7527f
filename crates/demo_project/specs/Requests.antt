-- The requests of the session in their order, and their bytes as messages.
use Rattle.std.specs.Prelude.{ℕ, ◌+◌, ◌*◌, ◌%◌, ◌==◌, List, [], ◌∷◌, ◌++◌, codes, decimal, length, if◌then◌else◌}
use Rattle.std.specs.List.{flat_map}
use Rattle.http_wire.specs.Answers.{field_line}
use Rattle.demo_project.specs.Joined.{joined}
use Rattle.demo_project.specs.Texts.{text_of}

-- ---- messages

-- a message of a caller
pub record Sent : Type 0 where
  pub caller : List ℕ
  pub method : List ℕ
  pub path : List ℕ
  pub body : List ℕ

-- the first line of a message
unfoldable pub message_line : (method path : List ℕ) → List ℕ
message_line method path = method ++ (codes " " ++ (path ++ codes " HTTP/1.1\r\n"))

-- the bytes of a message
unfoldable pub message_bytes : Sent → List ℕ
message_bytes m =
    message_line m.method m.path
    ++ field_line (codes "Caller") m.caller
    ++ field_line (codes "Content-Length") (decimal (length m.body))
    ++ codes "\r\n"
    ++ m.body

-- the bytes of messages, one behind another
unfoldable pub bytes_of : List Sent → List ℕ
bytes_of messages = flat_map message_bytes messages

-- one message
abbrev pub sent : (caller method path body : List ℕ) → List Sent
sent caller method path body = record { caller = caller; method = method; path = path; body = body } ∷ []

-- one message that posts nothing
abbrev pub posted : (caller path : List ℕ) → List Sent
posted caller path = sent caller (codes "POST") path []

-- ---- people and paths

-- the annotators by number
abbrev pub name_of : ℕ → List ℕ
name_of rater = if rater == 0 then codes "ann" else if rater == 1 then codes "bob" else codes "cid"

-- a path of a document
abbrev pub doc_path : (doc : ℕ) (end : List ℕ) → List ℕ
doc_path doc end = codes "/docs/d" ++ decimal doc ++ end

-- a path of the snapshot of a document; snapshots count from 1
abbrev pub snapshot_path : (doc : ℕ) (end : List ℕ) → List ℕ
snapshot_path doc end = codes "/snapshots/" ++ decimal (doc + 1) ++ end

-- ---- what an annotator does on a document

-- by how much the type that an annotator gives a word differs from the word's own: bob and cid differ at one word of ten
abbrev pub shift_of : (rater word : ℕ) → ℕ
shift_of rater word = if word % 10 == rater then rater else 0

-- the number of the type that an annotator gives a word
abbrev pub type_number : (number rater word : ℕ) → ℕ
type_number number rater word = (word + number + shift_of rater word) % 18

-- where a word stands: it has four characters, and a space stands behind it
abbrev pub place_of : ℕ → List ℕ
place_of word = decimal (5 * word) ++ (codes " " ++ decimal (5 * word + 4))

-- the command that adds the span of a word
abbrev pub mark_body : (number rater word : ℕ) → List ℕ
mark_body number rater word =
    codes "{\"at\":\"" ++ (place_of word ++ (codes "\",\"do\":\"add-span\",\"type\":\"K" ++ (decimal (type_number number rater word) ++ codes "\"}")))

-- the span of a word
abbrev pub mark : (number rater word : ℕ) → List Sent
mark number rater word = sent (name_of rater) (codes "POST") (codes "/desk/do") (mark_body number rater word)

-- the spans of the first 300 words
abbrev pub marks : (number rater : ℕ) → List Sent
marks number rater = joined (mark number rater) 300

-- the document is checked out
abbrev pub check_out : (doc rater : ℕ) → List Sent
check_out doc rater = posted (name_of rater) (doc_path doc (codes "/checkout"))

-- the layer of the desk is committed
abbrev pub commit : ℕ → List Sent
commit rater = posted (name_of rater) (codes "/desk/commit")

-- the desk is given up
abbrev pub park : ℕ → List Sent
park rater = posted (name_of rater) (codes "/desk/park")

-- the layer is finished
abbrev pub finish : (doc rater : ℕ) → List Sent
finish doc rater = posted (name_of rater) (doc_path doc (codes "/finish"))

-- all of an annotator's work on a document
abbrev pub works : (number doc rater : ℕ) → List Sent
works number doc rater = check_out doc rater ++ marks number rater ++ commit rater ++ park rater ++ finish doc rater

-- the work of the three annotators, one after another
abbrev pub all_work : (number doc : ℕ) → List Sent
all_work number doc = joined (works number doc) 3

-- ---- what the curator does

-- a text becomes a document
abbrev pub put_text : (number doc : ℕ) → List Sent
put_text number doc = sent (codes "cur") (codes "PUT") (doc_path doc (codes "/text")) (text_of number doc)

-- a snapshot is taken of the finished layers
abbrev pub snap : ℕ → List Sent
snap doc = posted (codes "cur") (doc_path doc (codes "/snapshots"))

-- the second span of ann is accepted
abbrev pub accept : ℕ → List Sent
accept doc = sent (codes "cur") (codes "POST") (snapshot_path doc (codes "/decisions")) (codes "{\"item\":\"ann/T2\",\"verdict\":\"accept\"}")

-- the curated layer is read
abbrev pub read_curated : ℕ → List Sent
read_curated doc = sent (codes "cur") (codes "GET") (snapshot_path doc (codes "/curated")) []

-- the agreement of each two annotators is read
abbrev pub read_pairs : List Sent
read_pairs = sent (codes "cur") (codes "GET") (codes "/agreement/pairs") []

-- the agreement of all annotators is read
abbrev pub read_alpha : List Sent
read_alpha = sent (codes "cur") (codes "GET") (codes "/agreement/alpha") []

-- ---- the session

-- what is done with a document, from its text to its curated layer
abbrev pub on_doc : (number doc : ℕ) → List Sent
on_doc number doc = put_text number doc ++ all_work number doc ++ snap doc ++ accept doc ++ read_curated doc

-- the same with forty documents, one after another
abbrev pub on_all_docs : ℕ → List Sent
on_all_docs number = joined (on_doc number) 40

-- all requests
abbrev pub demo_requests : ℕ → List Sent
demo_requests number = on_all_docs number ++ read_pairs ++ read_alpha

-- the bytes that come in
abbrev pub demo_input : ℕ → List ℕ
demo_input number = bytes_of (demo_requests number)
