-- 02 (e), as a statement: which values a feed ignores. (38 is `CallStatements.UnevenLists`.) The proof is in theory_demands.
use Rattle.std.specs.Prelude.{ℕ, ◌<◌, ◌≡◌, get_or, length, pos}
use Rattle.meaning.specs.Base.{In}
use Rattle.meaning.specs.Grammar.{Grammar, TableBytes, Area, ProgramBuilder, TokenKinds, TokenValues}
use Rattle.meaning.specs.Judgement.{Accepted}
use Rattle.meaning.specs.Calls.{Record, Stacks}
use Rattle.meaning.specs.PublicCalls.{feed, performs}

-- two lists of values that are the same wherever the kind has a tag 6 field
abbrev pub SameWhereCarried : Grammar → TokenKinds → TokenValues → TokenValues → Type 0
SameWhereCarried g ks vs ws = (i : ℕ) → i < length ks → In (get_or ks i 0) g.carrying → get_or vs i (pos 0) ≡ get_or ws i (pos 0)

-- "The value of a terminal without the field is ignored.": for any table, area, record and stacks, answer, record, stacks and area are the same
abbrev pub IgnoredValues : Type 0
IgnoredValues =
    (program : ProgramBuilder) (bs : TableBytes) (area : Area) (r : Record) (m : Stacks) (ks : TokenKinds) (vs ws : TokenValues) → length vs ≡ length ws
    → ((g : Grammar) → Accepted bs g → SameWhereCarried g ks vs ws)
    → performs program bs area r m (feed ks vs) ≡ performs program bs area r m (feed ks ws)
