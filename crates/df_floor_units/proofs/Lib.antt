pub mod FloorOrders
