pub mod RangeStarts
pub mod StoredOrder
