-- Messages that are taken one after another are all of them.
use Rattle.std.proofs.Common.{◌≡◌, ℕ, ◌+◌, List, [], ◌∷◌, ◌++◌, length, Option, Some, None, refl, ap, subst, ◌∙◌, length-append}
use Rattle.std.specs.Prelude.{IfSome}
use Rattle.std.specs.Io.KnownBytes.{prepend_known}
use Rattle.http_wire.specs.declared.message.Message.{Message}
use Rattle.http_wire.specs.declared.stop.Stop.{Stop}
use Rattle.http_wire.specs.declared.stop.Stop.TheVariants as stop
use Rattle.http_wire.specs.Messages.{Messages, ReadsMessage, StopsWith}
use Rattle.http_wire.specs.Inbox.{TakesMessage}
use Rattle.annotation_http.specs.Connection.Session.{Takes, TakesKnown}
use Rattle.demo_project.specs.Sessions.{HasMessages}

-- so many messages were taken from bytes, where they are told, and these are left
pub record CountsTo (before now : Option (List ℕ)) (count : ℕ) : Type 0 where
  pub messages : List Message
  pub takes : TakesKnown before messages now
  pub number : length messages ≡ count

-- no message was taken yet
pub counts_none : (before : Option (List ℕ)) → CountsTo before before 0
counts_none None = record { messages = []; takes = tt; number = refl }
counts_none (Some bytes) = record { messages = []; takes = refl; number = refl }

-- one message behind others
takes_more : (bytes : List ℕ) (messages : List Message) (message : Message) (middle rest : List ℕ) → Takes bytes messages middle → ReadsMessage middle message rest → Takes bytes (messages ++ message ∷ []) rest
takes_more bytes [] message middle rest is reads = (rest, subst (λ b. ReadsMessage b message rest) is reads, refl)
takes_more bytes (first ∷ messages) message middle rest (behind, reads_first, takes) reads = (behind, reads_first, takes_more behind messages message middle rest takes reads)

-- and one more
pub counts_more : (before middle now : Option (List ℕ)) (count : ℕ) (message : Message) → CountsTo before middle count → TakesMessage middle message now → CountsTo before now (count + 1)
counts_more None middle now count message counts takes = record {
  messages = counts.messages ++ message ∷ [];
  takes = tt;
  number = length-append counts.messages (message ∷ []) ∙ ap (λ n. n + 1) counts.number;
}
counts_more (Some bytes) None now count message counts takes = absurd counts.takes
counts_more (Some bytes) (Some middle) None count message counts takes = absurd takes
counts_more (Some bytes) (Some middle) (Some rest) count message counts takes = record {
  messages = counts.messages ++ message ∷ [];
  takes = takes_more bytes counts.messages message middle rest counts.takes takes;
  number = length-append counts.messages (message ∷ []) ∙ ap (λ n. n + 1) counts.number;
}

-- messages taken to where the bytes stop are all of them
pub are_messages : (bytes : List ℕ) (messages : List Message) (rest : List ℕ) (why : Stop) → Takes bytes messages rest → StopsWith rest why → Messages bytes messages why
are_messages bytes [] rest why is stops = subst (λ b. StopsWith b why) is stops
are_messages bytes (message ∷ messages) rest why (behind, reads, takes) stops = (behind, reads, are_messages behind messages rest why takes stops)

-- nothing is left
pub counts_all : (before now : Option (List ℕ)) (count : ℕ) → CountsTo before now count → IfSome now (λ rest. StopsWith rest stop.End) → IfSome before (λ bytes. HasMessages bytes count)
counts_all None now count counts stops = tt
counts_all (Some bytes) None count counts stops = absurd counts.takes
counts_all (Some bytes) (Some rest) count counts stops = record { messages = counts.messages; are = are_messages bytes counts.messages rest stop.End counts.takes stops; number = counts.number }

-- the same, from an inbox that holds nothing and a link that tells its bytes
pub counted_all : (held : List ℕ) (left : Option (List ℕ)) (bytes : List ℕ) (count : ℕ) → held ≡ [] → left ≡ Some bytes → IfSome (prepend_known held left) (λ all. HasMessages all count) → HasMessages bytes count
counted_all held left bytes count none told counted =
    let bare : IfSome (prepend_known [] left) (λ all. HasMessages all count) = subst (λ (h : List ℕ). IfSome (prepend_known h left) (λ all. HasMessages all count)) none counted in
    subst (λ (l : Option (List ℕ)). IfSome (prepend_known [] l) (λ all. HasMessages all count)) told bare
