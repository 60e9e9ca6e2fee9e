-- The opening of an inner run: the outer table and run, then the inner ones

-- What each inner call begins with: 30, the table, and its program written
pub mod Beginning
