-- The symbols that the frames still expect, and what a move does to them
pub mod Remaining
-- What stands on the frames alone, whatever the values: the whole segment's frame at the bottom, each other frame with a remove still to come, and each frame below another waiting at a symbol
pub mod Framed
-- Whatever was read, with what is still expected behind it, is derived from the start symbol
pub mod Prefixes
-- Where what comes next leaves one alternative, it is the one that every derivation of the tokens to come takes
pub mod Choice
-- Where the tokens to come complete a token string, what the frames expect derives them, and each move keeps that: the alternative predicted is the one that the derivation takes
pub mod Following
-- Where the tokens to come complete a token string, no move is blocked as unexpected, but at the end after the start symbol is left
pub mod Unblocked
-- A feed or a finish that is refused: the token at hand, and what its moves kept until one was blocked
pub mod Failing
-- The token at which an open run is refused by 21 is the first impossible one, and what 24 says of the tokens fed
pub mod Marked
-- The promises' premises are met: words and tags without its entry condition, words and tags itself, whose sets never meet, and a table whose entry conditions choose, for which the promise fails
pub mod MarkedRows
