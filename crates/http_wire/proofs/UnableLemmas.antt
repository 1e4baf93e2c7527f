-- The fixed answer of a connection that has no memory for another one.
use Rattle.std.proofs.Common.{◌≡◌, ℕ, List, ◌++◌, append_assoc}
use Rattle.std.specs.Prelude.{codes, decimal}
use Rattle.http_wire.proofs.DecimalLemmas.{decimal_20, decimal_503}
use Rattle.http_wire.specs.Answers.{answer_bytes_of, field_line, phrase_of, status_line, unable}

abbrev pub unable_front : List ℕ
unable_front = codes "HTTP/1.1 503 Service Unavailable\r\nContent-Type: application/json\r\nContent-Length: 20\r\nPlace: "

abbrev pub unable_back : List ℕ
unable_back = codes "\r\nConnection: close\r\n\r\n{\"refused\":\"Memory\"}"

pub unable_parts : (place : ℕ) → unable place ≡ unable_front ++ (decimal place ++ unable_back)
unfolding answer_bytes_of field_line phrase_of status_line unable
unable_parts place = rw (decimal_503, decimal_20) (simp append_assoc)
