-- 02 (l): "The editor underlines the token at which 21 is given." What is promised of that token, and of a segment refused by 24; values, stacks and the token limit play no part in it.
use Rattle.std.specs.Prelude.{ℕ, suc, ◌<◌, ◌≡◌, Bool, false, List, ◌++◌, map, length, take}
use Rattle.meaning.specs.Grammar.{Grammar, Look, Token, terminal, production_at, TableBytes, Area, ProgramBuilder, TokenKinds, TokenValues}
use Rattle.meaning.specs.Derivation.{Derives, Listed, Starts, start_form, entry_conditional}
use Rattle.meaning.specs.Judgement.{Accepted}
use Rattle.meaning.specs.Calls.{Record, Stacks, refused}
use Rattle.meaning.specs.PublicCalls.{feed, finish, performs}
use Rattle.meaning_statements.specs.Statements.{History}

-- 02: "some token string of the underlying grammar, conditions aside"
abbrev pub TokenString : Grammar → TokenKinds → Type 0
TokenString g ts = Derives g (start_form g) (map terminal ts)

-- the whole string begins itself too
abbrev pub Begins : Grammar → TokenKinds → Type 0
Begins g ts = (us : TokenKinds) × TokenString g (ts ++ us)

-- 02: "the tokens before it begin some token string .., and .. with the underlined token they begin none"
abbrev pub FirstImpossible : Grammar → TokenKinds → ℕ → Type 0
FirstImpossible g ts n = (n < length ts) × Begins g (take n ts) × (Begins g (take (suc n) ts) → ⊥)

-- 02: "the whole segment begins such a string and is none"
abbrev pub Unfinished : Grammar → TokenKinds → Type 0
Unfinished g ts = Begins g ts × (TokenString g ts → ⊥)

-- 02: "For a table without entry conditions": no production has a condition of position 0
abbrev pub Unconditional : Grammar → Type 0
Unconditional g = (p : ℕ) → Listed g p → entry_conditional g p ≡ false

-- more tables than these: what comes next leaves one production of a nonterminal, whatever the values
abbrev pub OneStart : Grammar → Type 0
OneStart g = (l : Look) (p q : ℕ) → Listed g p → Listed g q → (production_at g p).left ≡ (production_at g q).left → Starts g p l → Starts g q l → p ≡ q

-- of tokens with values their kinds alone matter
abbrev pub kinds : List Token → TokenKinds
kinds ts = map (λ t. t.kind) ts

-- after any list of calls (demand 3's premise): ts are the tokens fed before, ks the kinds of the feed at hand, vs its values, whatever they are
abbrev pub MarkedWhere : (Grammar → Type 0) → Type 0
MarkedWhere Premise =
    (program : ProgramBuilder) (bs : TableBytes) (area : Area) (g : Grammar) (m₀ : Stacks) (ts : List Token) (is_over : Bool) (r : Record) (m : Stacks) → Accepted bs g → Premise g → History program bs m₀ ts is_over r m
    → ((ks : TokenKinds) (vs : TokenValues) (n : ℕ) → (performs program bs area r m (feed ks vs)).answer ≡ refused 21 n → FirstImpossible g (kinds ts ++ ks) n)
    × ((n : ℕ) → (performs program bs area r m finish).answer ≡ refused 24 n → Unfinished g (kinds ts))

abbrev pub MarkedToken : Type 0
MarkedToken = MarkedWhere Unconditional

abbrev pub MarkedByStart : Type 0
MarkedByStart = MarkedWhere OneStart

-- the first half, for every accepted table
abbrev pub MarkedBegins : Type 0
MarkedBegins =
    (program : ProgramBuilder) (bs : TableBytes) (area : Area) (g : Grammar) (m₀ : Stacks) (ts : List Token) (is_over : Bool) (r : Record) (m : Stacks) → Accepted bs g → History program bs m₀ ts is_over r m
    → ((ks : TokenKinds) (vs : TokenValues) (n : ℕ) → (performs program bs area r m (feed ks vs)).answer ≡ refused 21 n → (n < length (kinds ts ++ ks)) × Begins g (take n (kinds ts ++ ks)))
    × ((n : ℕ) → (performs program bs area r m finish).answer ≡ refused 24 n → Begins g (kinds ts))
