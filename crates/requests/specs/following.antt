-- Following a list of records for the access that ends it, as F-6 and F-10 do
pub mod Following
