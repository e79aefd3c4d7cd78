-- What a `Sale` stands for, and what messages do to it. Assumes nothing: these are definitions.
use Rattle.std.specs.Prelude.{ℕ, List}
use Rattle.bundle.specs.Reserves.{prices_of}
use Rattle.book.specs.Books.{entries_of, book_supply}
use Rattle.book.specs.Posting.{Reply, posts, read_for, answer_of, answers}
use Rattle.sale.specs.Opening.{State}
use Rattle.sale.specs.declared.state.Sale.{Sale}

abbrev pub state_of : Sale → State
state_of s = record { supply = book_supply s.book; reserve = prices_of s.reserve; entries = entries_of s.book; company = s.company }

-- the sale after these messages
abbrev pub after : State → List (List ℕ) → State
after h ms = record { supply = h.supply; reserve = h.reserve; entries = posts h.supply h.entries ms; company = h.company }

-- what is answered to a message
abbrev pub reply : State → List ℕ → Reply
reply h m = answer_of (read_for h.supply h.entries m)

-- and to each of several
abbrev pub replies : State → List (List ℕ) → List Reply
replies h ms = answers h.supply h.entries ms
