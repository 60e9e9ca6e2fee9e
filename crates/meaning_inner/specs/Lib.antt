-- 02 (h): one inner run over the same lent stacks, above the outer run's heights
pub mod Inner
-- 02 (h): what a list of inner calls comes to, and what the same calls come to for a run alone
pub mod InnerLists
-- The inner run, computed: an outer run of words and tags stopped after word open (7 registers, 4 places), on 16 registers and 9 places; an inner run over it on the 9 registers and 5 places that are left
pub mod InnerRows
