-- 02 (i) by example, on the grammar of words and tags.
use Rattle.std.specs.Prelude.{◌≡◌, refl, [], ◌∷◌, ◌++◌, map, pos, negsuc}
use Rattle.meaning.specs.Tree.{Tree, leaf, node, no_trees, tree_and}
use Rattle.meaning_sheet.specs.Sheet.{eight_bytes, record_bytes, sheet_of}
use Rattle.meaning_sheet.specs.SheetCalls.{sheet_effect, sheeted, turned_back, with_sheet}

-- ---- a record: production, tokens before, tokens covered, values; all big-endian

records : record_bytes 2 65535 258 (pos 1 ∷ negsuc 0 ∷ []) ≡ 0 ∷ 0 ∷ 0 ∷ 2 ∷ 0 ∷ 0 ∷ 255 ∷ 255 ∷ 0 ∷ 0 ∷ 1 ∷ 2 ∷ 0 ∷ 0 ∷ 0 ∷ 0 ∷ 0 ∷ 0 ∷ 0 ∷ 1 ∷ 255 ∷ 255 ∷ 255 ∷ 255 ∷ 255 ∷ 255 ∷ 255 ∷ 255 ∷ []
records = refl

values : map eight_bytes (pos 1000000000000 ∷ negsuc 1 ∷ []) ≡ (0 ∷ 0 ∷ 0 ∷ 232 ∷ 212 ∷ 165 ∷ 16 ∷ 0 ∷ []) ∷ (255 ∷ 255 ∷ 255 ∷ 255 ∷ 255 ∷ 255 ∷ 255 ∷ 254 ∷ []) ∷ []
values = refl

-- ---- a tree: one word. S to L; L to word L; L to nothing

abbrev word : Tree
word = leaf (record { kind = 0; values = [] })

abbrev one : Tree
one = node 0 (pos 1 ∷ []) (tree_and (node 1 (pos 0 ∷ pos 1 ∷ []) (tree_and word (tree_and (node 3 (pos 0 ∷ pos 0 ∷ []) no_trees) no_trees))) no_trees)

-- a node before its children, no record for the token, and it lies before the last node
one_sheet_lem : sheet_of one ≡ record_bytes 0 0 1 (pos 1 ∷ []) ++ (record_bytes 1 0 1 (pos 0 ∷ pos 1 ∷ []) ++ record_bytes 3 1 0 (pos 0 ∷ pos 0 ∷ []))
one_sheet_lem = refl

-- ---- where an accepted value is answered: 41 where the buffer is too short; else the sheet, and what lies behind it stays

room : with_sheet (pos 5) 8 (1 ∷ 2 ∷ []) (7 ∷ 7 ∷ 7 ∷ []) ≡ sheet_effect (sheeted (pos 5) 8 2) (1 ∷ 2 ∷ 7 ∷ [])
room = refl

just_room : with_sheet (pos 5) 8 (1 ∷ 2 ∷ []) (7 ∷ 7 ∷ []) ≡ sheet_effect (sheeted (pos 5) 8 2) (1 ∷ 2 ∷ [])
just_room = refl

no_room : with_sheet (pos 5) 8 (1 ∷ 2 ∷ []) (7 ∷ []) ≡ sheet_effect (turned_back 41 0) (7 ∷ [])
no_room = refl
