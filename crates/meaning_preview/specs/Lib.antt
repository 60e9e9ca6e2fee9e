-- 02 (g): what one more token would do to a run that is stopped, and the set of tokens that may come next
pub mod Preview
-- 02 (g), as statements: what a preview and the set of tokens answer, for arbitrary bytes, areas, records, stacks and scratch
pub mod PreviewStatements
-- What may be typed now, computed: 02 (g)
pub mod PreviewRows
